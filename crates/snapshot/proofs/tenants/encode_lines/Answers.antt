use Rattle.std.proofs.Common.{sym, subst, List, ℕ}
use Rattle.codec.specs.Codes.{Encodes, FitEach, list_code}
use Rattle.snapshot.specs.Parts.{FitsLine, line_code}
use Rattle.snapshot.proofs.Lines.{lines_are, same_length}
use Rattle.snapshot.proofs.tenants.encode_lines.Goals as goal

pub returns-clause-code : goal.returns-clause-code
returns-clause-code c =
    subst (λ (ps : List (ℕ × List (List ℕ))). Encodes (list_code line_code) ps c.args.out.now.items
    c.encode_outlet.new.out.items)
    (sym (lines_are c.args.outlet.now)) c.in_ok-encode_outlet.ensures.code

pub returns-clause-fits : goal.returns-clause-fits
returns-clause-fits c = (
  subst (FitEach FitsLine) (sym (lines_are c.args.outlet.now)) c.in_ok-encode_outlet.ensures.fits,
  same_length c.args.outlet.now,
)

use Rattle.std.proofs.Common.{◌++◌, ◌∙◌, ap, sym, subst, List, drop, ◌+◌}
use Rattle.output_commit.specs.Holds.{Line}
use Rattle.codec.specs.Codes.{AllFit, each_code}
use Rattle.snapshot.specs.Parts.{FitsLine, line_code, pairs_of}
use Rattle.codec.proofs.Each.{at_drop}
use Rattle.snapshot.proofs.outlets.encode_each_line.Goals as goal

pub loop-line-preserved : goal.loop-line-preserved
loop-line-preserved c =
    let left = at_drop c.args.lines.now c.loop-line.line-index c.line-item.result c.loop-line-test.true c.line-item.is
    in
    record {
      code = λ rest. c.in_ok-encode_line.ensures.code
          (each_code line_code (pairs_of (drop (c.loop-line.line-index + 1) c.args.lines.now)) rest)
          ∙ ap (λ (xs : List Line). c.loop-line.out.items ++ each_code line_code (pairs_of xs) rest) (sym left)
          ∙ c.loop-line.invariant.code rest;
      fits = λ others. c.loop-line.invariant.fits (subst (λ (xs : List Line). AllFit FitsLine (pairs_of xs)) (sym left)
          (c.in_ok-encode_line.ensures.fits, others));
    }

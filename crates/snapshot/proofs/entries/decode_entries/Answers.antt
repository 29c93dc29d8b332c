use Rattle.std.proofs.Common.{◌≡◌, sym, length}
use Rattle.codec.specs.Codes.{Unless}
use Rattle.codec.specs.declared.fault.DecodeFault.TheVariants.{NoMemory}
use Rattle.snapshot.specs.Hosts.{FitEntries, entries_code}
use Rattle.snapshot.proofs.Faults.{failed}
use Rattle.snapshot.proofs.entries.decode_entries.Goals as goal

pub returns-clause-ok : goal.returns-clause-ok
returns-clause-ok g c = λ v rest fit is.
    let count = c.in_ok-count.ensures.ok (length v) _ fit.0.1 is in
    c.in_ok-decode_all_onto.ensures.ok v rest count.0 fit.0.0 (sym count.1)

pub returns-in_err-count-clause-err : goal.returns-in_err-count-clause-err
returns-in_err-count-clause-err g c = failed c.from_residual.result c.in_err-count.field-0.0
    (λ e. Unless (entries_code g.H.Portable.state_code) (FitEntries g.H.Portable.state_fits) c.args.input.now
    (e ≡ NoMemory)) c.from_residual.ensures.1
    (λ v rest fit is. c.in_err-count.ensures.err (length v) _ fit.0.1 is)

pub returns-in_err-decode_all_onto-clause-err : goal.returns-in_err-decode_all_onto-clause-err
returns-in_err-decode_all_onto-clause-err g c =
    failed c.from_residual-in_err-decode_all_onto.result c.in_err-decode_all_onto.field-0.0
    (λ e. Unless (entries_code g.H.Portable.state_code) (FitEntries g.H.Portable.state_fits) c.args.input.now
    (e ≡ NoMemory)) c.from_residual-in_err-decode_all_onto.ensures.1
    (λ v rest fit is.
    let count = c.in_ok-count.ensures.ok (length v) _ fit.0.1 is in
    c.in_err-decode_all_onto.ensures.err v rest (count.0, fit.0.0, fit.1) (sym count.1))

use Rattle.std.proofs.Common.{rules, ◌≡◌, sym}
use Rattle.codec.specs.Codes.{Unless}
use Rattle.snapshot.specs.Logs.{log_code, FitsLog}
use Rattle.codec.specs.declared.fault.DecodeFault.TheVariants.{NoMemory}
use Rattle.snapshot.proofs.log.decode_pairs.Goals as goal

pub returns-in_err-pairs-clause-err : goal.returns-in_err-pairs-clause-err
returns-in_err-pairs-clause-err c =
    let only : Unless log_code FitsLog c.args.input.now (c.in_err-pairs.field-0.0 ≡ NoMemory) = λ v rest fit is.
    let count = c.in_ok-count.ensures.ok v.0 _ fit.0 is in
    c.in_err-pairs.ensures.err v.1 rest fit.1 (sym count.1) in
    search (rules, only)

pub returns-clause-ok : goal.returns-clause-ok
returns-clause-ok c = λ v rest fit is.
    let count = c.in_ok-count.ensures.ok v.0 _ fit.0 is in
    let pairs = c.in_ok-pairs.ensures.ok v.1 rest fit.1 (sym count.1) in
    (λ i. (count.0 i, pairs.0 i), pairs.1)

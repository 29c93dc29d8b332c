use Rattle.std.proofs.Common.{◌≡◌, ◌∙◌, ap, sym, subst, List, ℕ, length}
use Rattle.model.specs.declared.records.Record.{Record}
use Rattle.shared_log.specs.Filled.{filled}
use Rattle.shared_log.proofs.FilledLaws.{refilled}
use Rattle.codec.specs.declared.fault.DecodeFault.TheVariants.{NoMemory}
use Rattle.snapshot.specs.Logs.{AreWithin, LeaveRoom, UnlessLog}
use Rattle.snapshot.proofs.Faults.{failed}
use Rattle.snapshot.proofs.Room.{within}
use Rattle.snapshot.proofs.log.decode_log.Goals as goal

pub returns-clause-records : goal.returns-clause-records
returns-clause-records c = λ written pairs rest are is.
    let read = c.in_ok-count.ensures.ok (length written, pairs) rest are.fit is in (
      sym (c.in_ok-log.ensures.records ∙ ap (λ (p : ℕ × List (ℕ × Record)). filled p.0 p.1) (sym read.0)
          ∙ refilled written pairs are.live are.all),
      read.1,
    )

pub returns-in_err-log-clause-err : goal.returns-in_err-log-clause-err
returns-in_err-log-clause-err c = failed c.from_residual-in_err-log.result c.in_err-log.field-0.0
    (λ e. UnlessLog c.args.input.now (e ≡ NoMemory)) c.from_residual-in_err-log.ensures.1
    (λ written pairs rest are is.
    let read = (c.in_ok-count.ensures.ok (length written, pairs) rest are.fit is).0 in
    c.in_err-log.ensures.err (subst (λ (p : ℕ × List (ℕ × Record)). LeaveRoom p.1) read are.room)
    (subst (λ (p : ℕ × List (ℕ × Record)). AreWithin p.0 p.1) read (within written pairs are.live)))

pub returns-in_err-count-clause-err : goal.returns-in_err-count-clause-err
returns-in_err-count-clause-err c = failed c.from_residual.result c.in_err-count.field-0.0
    (λ e. UnlessLog c.args.input.now (e ≡ NoMemory)) c.from_residual.ensures.1
    (λ written pairs rest are is. c.in_err-count.ensures.err (length written, pairs) rest are.fit is)

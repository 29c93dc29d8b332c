use Rattle.std.proofs.Common.{◌∙◌, ◌-◌, arith}
use Rattle.std.proofs.lemmas.Result.{err_from_is_err_and}
use Rattle.riscv.proofs.Steps.{steps_none, round_made, round_stopped, round_ended, rests_left}
use Rattle.riscv.proofs.machine.Machine.round.Goals as goal

pub returns-in_err-pause : goal.returns-in_err-pause
returns-in_err-pause c =
    let left = c.args.left.now in
    let p = err_from_is_err_and c.from_residual.result c.from_residual.ensures.1 in
    let none = steps_none (left - left) c.args.self.now (omega arith) in
    let stopped = round_stopped c.in_err-pause.field-0.0 left left c.args.self.now c.args.self.now
    c.pass_page.new.self c.requires (omega arith) none c.in_err-pause.ensures in
    round_ended _ _ _ left left _ _ p.1 p.2 stopped

pub returns : goal.returns
returns c =
    let pause = c.in_ok-pause.ensures in
    let settled = rw c.in-Some.is at c.in_ok-settle.ensures in
    let rests = rests_left c.in-Some.apart c.in_ok-pause.pause.left c.args.left.now c.pass_page.new.self
    (rw c.in-Some.is at c.is_unread.ensures.read c.if-is_unread.false) (rw c.in-Some.is at pause.rests) in
    round_made c.in_ok-pause.pause.left c.args.left.now _ _ _ rests.0 pause.fewer pause.made (rests.1 ∙ settled)

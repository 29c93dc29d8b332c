use Rattle.std.proofs.lemmas.Result.{err_from_is_err_and}
use Rattle.lines.specs.Doing.{DoesBy}
use Rattle.driver.proofs.Rounds.{drove_cut, drove_fails, drove_then}
use Rattle.driver.proofs.driving.carry_on.Goals as goal

pub returns-in_err-deliver_letters : goal.returns-in_err-deliver_letters
returns-in_err-deliver_letters g c =
    let Does = DoesBy g.F.Fn c.args.step.now in
    let tenant = c.args.subject.now.tenant in
    let p = err_from_is_err_and
    c.from_residual-in_err-deliver_letters.result c.from_residual-in_err-deliver_letters.ensures.1 in
    drove_fails Does tenant c.from_residual-in_err-deliver_letters.result
    p.0 c.in_err-deliver_letters.field-0.0 _ _ _ _ _ _ p.1 p.2
    (drove_cut Does tenant _ _ _ _ _ _ _ _ _ _ c.in_ok-do_chores.ensures c.in_err-deliver_letters.ensures)

pub returns : goal.returns
returns g c =
    let Does = DoesBy g.F.Fn c.args.step.now in
    let tenant = c.args.subject.now.tenant in
    drove_then Does tenant c.do_chores-2.result _ _ _ _ _ _ _ _ _ c.in_ok-do_chores.ensures
    (drove_then Does tenant c.do_chores-2.result
    _ _ _ _ _ _ _ _ _ c.in_ok-deliver_letters.ensures c.do_chores-2.ensures)

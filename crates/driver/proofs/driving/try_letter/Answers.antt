use Rattle.std.specs.Prelude.{Ok}
use Rattle.std.proofs.lemmas.Result.{err_from_is_err_and}
use Rattle.lines.specs.Doing.{DoesBy}
use Rattle.driver.proofs.Rounds.{drove_cut, drove_fails, drove_then}
use Rattle.driver.proofs.driving.try_letter.Goals as goal

pub returns-in_err-do_chores : goal.returns-in_err-do_chores
returns-in_err-do_chores g c =
    let Does = DoesBy g.F.Fn c.args.step.now in
    let tenant = c.args.tenant.now in
    let p = err_from_is_err_and c.from_residual-in_err-do_chores.result c.from_residual-in_err-do_chores.ensures.1 in
    drove_fails Does tenant c.from_residual-in_err-do_chores.result p.0 c.in_err-do_chores.field-0.0 _ _ _ _ _ _ p.1 p.2
    (drove_cut Does tenant _ _ _ _ _ _ _ _ _ _ c.in_ok-refusal.ensures c.in_err-do_chores.ensures)

pub returns-in_err-again : goal.returns-in_err-again
returns-in_err-again g c =
    let Does = DoesBy g.F.Fn c.args.step.now in
    let tenant = c.args.tenant.now in
    let p = err_from_is_err_and c.from_residual-in_err-again.result c.from_residual-in_err-again.ensures.1 in
    drove_fails Does tenant c.from_residual-in_err-again.result p.0 c.in_err-again.field-0.0 _ _ _ _ _ _ p.1 p.2
    (drove_cut Does tenant _ _ _ _ _ _ _ _ _ _ c.in_ok-refusal.ensures
    (drove_cut Does tenant _ _ _ _ _ _ _ _ _ _ c.in_ok-do_chores.ensures c.in_err-again.ensures))

pub returns : goal.returns
returns g c =
    let Does = DoesBy g.F.Fn c.args.step.now in
    let tenant = c.args.tenant.now in
    drove_then Does tenant {A = Unit {0}} (Ok tt) _ _ _ _ _ _ _ _ _ c.in_ok-refusal.ensures
    (drove_then Does tenant {A = Unit {0}} (Ok tt) _ _ _ _ _ _ _ _ _ c.in_ok-do_chores.ensures c.in_ok-again.ensures)

use Rattle.std.specs.Prelude.{Ok}
use Rattle.std.proofs.lemmas.Result.{err_from_is_err_and}
use Rattle.lines.specs.Doing.{DoesBy}
use Rattle.driver.proofs.Rounds.{drove_cut, drove_fails, drove_then}
use Rattle.driver.proofs.driving.do_chores.Goals as goal

pub returns-in_err-do_chore : goal.returns-in_err-do_chore
returns-in_err-do_chore g c =
    let Does = DoesBy g.F.Fn c.args.step.now in
    let tenant = c.args.tenant.now in
    let p = err_from_is_err_and c.from_residual.result c.from_residual.ensures.1 in
    drove_fails Does tenant c.from_residual.result p.0 c.in_err-do_chore.field-0.0 _ _ _ _ _ _ p.1 p.2
    (drove_cut Does tenant _ _ _ _ _ _ _ _ _ _ c.loop-chore.invariant c.in_err-do_chore.ensures)

pub loop-chore-preserved : goal.loop-chore-preserved
loop-chore-preserved g c =
    drove_then (DoesBy g.F.Fn c.args.step.now) c.args.tenant.now {A =
    Unit {0}} (Ok tt) _ _ _ _ _ _ _ _ _ c.loop-chore.invariant c.in_ok-do_chore.ensures

use Rattle.std.proofs.Common.{◌∙◌}
use Rattle.std.specs.Prelude.{Ok}
use Rattle.std.proofs.lemmas.Result.{err_from_is_err_and}
use Rattle.lines.specs.Doing.{DoesBy}
use Rattle.lines.specs.declared.fault.ServeFault.TheVariants.{NoMemory}
use Rattle.driver.proofs.Rounds.{drove_cut, drove_fails, drove_out, drove_then}
use Rattle.driver.proofs.driving.deliver_letters.Goals as goal

pub returns-in_err-fate : goal.returns-in_err-fate
returns-in_err-fate g c =
    let Does = DoesBy g.F.Fn c.args.step.now in
    let tenant = c.args.tenant.now in
    let p = err_from_is_err_and c.from_residual.result c.from_residual.ensures.1 in
    drove_fails Does tenant c.from_residual.result p.0 c.in_err-fate.field-0.0 _ _ _ _ _ _ p.1 p.2
    (drove_cut Does tenant _ _ _ _ _ _ _ _ _ _ c.loop-place.invariant c.in_err-fate.ensures)

pub returns-in_err-decide : goal.returns-in_err-decide
returns-in_err-decide g c =
    let Does = DoesBy g.F.Fn c.args.step.now in
    let tenant = c.args.tenant.now in
    let p = err_from_is_err_and c.from_residual-in_err-decide.result c.from_residual-in_err-decide.ensures.1 in
    drove_fails Does tenant c.from_residual-in_err-decide.result p.0 NoMemory _ _ _ _ _ _ p.1 (p.2
    ∙ c.in_err-decide.ensures)
    (drove_out Does tenant _ _ _ _ _ _
    (drove_then Does tenant {A = Unit {0}} (Ok tt) _ _ _ _ _ _ _ _ _ c.loop-place.invariant c.in_ok-fate.ensures))

pub loop-place-preserved : goal.loop-place-preserved
loop-place-preserved g c =
    drove_then (DoesBy g.F.Fn c.args.step.now) c.args.tenant.now {A =
    Unit {0}} (Ok tt) _ _ _ _ _ _ _ _ _ c.loop-place.invariant c.in_ok-fate.ensures

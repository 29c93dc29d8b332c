use Rattle.std.proofs.Common.{◌∙◌, ap}
use Rattle.flows.specs.Chores.{chore_step}
use Rattle.model.specs.Addresses.{whole}
use Rattle.model.proofs.Apart.{whole_is}
use Rattle.driver.proofs.driving.step_of.Goals as goal

pub returns : goal.returns
returns c = ap (λ t. whole t c.own_step.result) c.copy.ensures
    ∙ whole_is (chore_step c.args.tenant.now c.args.chore.now) _ _ (c.own_step.ensures c.args.tenant.now)

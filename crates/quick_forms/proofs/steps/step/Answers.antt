use Rattle.quick_forms.proofs.NoStep.{verbless}
use Rattle.quick_forms.proofs.steps.step.Goals as goal

pub returns-in-None-default-default-default-default-default-default-clause-bad :
    goal.returns-in-None-default-default-default-default-default-default-clause-bad
returns-in-None-default-default-default-default-default-default-clause-bad c =
    λ _. verbless c.args.seen c.in-None-default-default-default-default-default-default.is-0

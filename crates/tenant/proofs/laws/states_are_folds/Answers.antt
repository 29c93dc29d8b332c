use Rattle.theory.proofs.States.{states_are_folds}
use Rattle.tenant.proofs.laws.states_are_folds.Goals as goal

pub returns : goal.returns
returns g c = states_are_folds (g.H.Handler.meaning)

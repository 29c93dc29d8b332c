use Rattle.theory.proofs.Chains.{forks_are_lost}
use Rattle.tenant.proofs.laws.forks_are_lost.Goals as goal

pub returns : goal.returns
returns g c = forks_are_lost (g.H.Handler.meaning)

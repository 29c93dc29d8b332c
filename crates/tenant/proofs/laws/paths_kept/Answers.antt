use Rattle.theory.proofs.Chains.{paths_kept}
use Rattle.tenant.proofs.laws.paths_kept.Goals as goal

pub returns : goal.returns
returns g c = paths_kept (g.H.Handler.meaning)

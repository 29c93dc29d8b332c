use Rattle.theory.proofs.WithoutOptimism.{no_orphans}
use Rattle.tenant.proofs.laws.no_orphans.Goals as goal

pub returns : goal.returns
returns g c = no_orphans (g.H.Handler.meaning)

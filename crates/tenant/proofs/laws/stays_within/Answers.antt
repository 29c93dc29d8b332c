use Rattle.theory.proofs.Limits.{stays_within}
use Rattle.tenant.proofs.laws.stays_within.Goals as goal

pub returns : goal.returns
returns g c = stays_within g.H.Handler.meaning

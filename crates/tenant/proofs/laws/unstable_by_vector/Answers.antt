use Rattle.theory.proofs.FirmVector.{unstable_by_vector}
use Rattle.tenant.proofs.laws.unstable_by_vector.Goals as goal

pub returns : goal.returns
returns g c = unstable_by_vector (g.H.Handler.meaning)

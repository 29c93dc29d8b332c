use Rattle.theory.proofs.FirmVector.{firm_by_vector}
use Rattle.tenant.proofs.laws.firm_by_vector.Goals as goal

pub returns : goal.returns
returns g c = firm_by_vector (g.H.Handler.meaning)

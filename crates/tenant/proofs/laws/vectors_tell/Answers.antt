use Rattle.theory.proofs.VectorLaw.{vectors_tell}
use Rattle.tenant.proofs.laws.vectors_tell.Goals as goal

pub returns : goal.returns
returns g c = vectors_tell (g.H.Handler.meaning)

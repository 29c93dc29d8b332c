use Rattle.theory.proofs.VectorJoin.{vectors_join}
use Rattle.tenant.proofs.laws.vectors_join.Goals as goal

pub returns : goal.returns
returns g c = vectors_join (g.H.Handler.meaning)

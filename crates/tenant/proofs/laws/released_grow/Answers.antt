use Rattle.theory.proofs.ReleasedGrow.{released_grow}
use Rattle.tenant.proofs.laws.released_grow.Goals as goal

pub returns : goal.returns
returns g c = released_grow (g.H.Handler.meaning)

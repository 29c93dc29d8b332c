use Rattle.theory.proofs.HeldCanGo.{held_can_go}
use Rattle.tenant.proofs.laws.held_can_go.Goals as goal

pub returns : goal.returns
returns g c = held_can_go (g.H.Handler.meaning)

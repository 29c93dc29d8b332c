use Rattle.theory.proofs.HeldCanGo.{not_firm_can_go}
use Rattle.tenant.proofs.laws.not_firm_can_go.Goals as goal

pub returns : goal.returns
returns g c = not_firm_can_go (g.H.Handler.meaning)

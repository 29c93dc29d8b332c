use Rattle.theory.proofs.Certificate.{released_are_firm}
use Rattle.tenant.proofs.laws.released_are_firm.Goals as goal

pub returns : goal.returns
returns g c = released_are_firm (g.H.Handler.meaning)

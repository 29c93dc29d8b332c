use Rattle.theory.proofs.Chains.{firm_stays}
use Rattle.tenant.proofs.laws.firm_stays.Goals as goal

pub returns : goal.returns
returns g c = firm_stays (g.H.Handler.meaning)

use Rattle.theory.proofs.Chains.{chains}
use Rattle.tenant.proofs.laws.chain.Goals as goal

pub returns : goal.returns
returns g c = chains (g.H.Handler.meaning)

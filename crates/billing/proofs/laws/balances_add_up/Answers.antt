use Rattle.billing.proofs.Balances.{adds_up}
use Rattle.billing.proofs.laws.balances_add_up.Goals as goal

pub returns : goal.returns
returns c = adds_up

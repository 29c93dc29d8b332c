use Rattle.std.proofs.Common.{rules}
use Rattle.billing.proofs.Numbers.{number}
use Rattle.billing.proofs.request.cents_in.Goals as goal

pub returns : goal.returns
returns c = search (rules, number _ _ c.parse.ensures.value.0)

use Rattle.std.proofs.Common.{◌≡◌, take}
use Rattle.billing.proofs.accounts.Accounts.copy.Given as goal

abbrev pub invariant-loop-account : goal.invariant-loop-account
invariant-loop-account l = l.accounts.items ≡ take l.account-index l.account-items

use Rattle.std.proofs.Common.{◌≡◌, drop}
use Rattle.billing.specs.Accounts.{balance}
use Rattle.billing.proofs.accounts.Accounts.balance.Given as goal

abbrev pub invariant-loop-account : goal.invariant-loop-account
invariant-loop-account l = balance (drop l.account-index l.account-items) l.name ≡ balance l.account-items l.name

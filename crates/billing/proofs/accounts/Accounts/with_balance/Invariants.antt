use Rattle.std.proofs.Common.{◌≡◌, ◌++◌, if◌then◌else◌, drop}
use Rattle.billing.specs.Accounts.{with_balance}
use Rattle.billing.proofs.accounts.Accounts.with_balance.Given as goal

abbrev pub invariant-loop-account : goal.invariant-loop-account
invariant-loop-account l =
    l.accounts.items ++ (if l.is_new then
    with_balance (drop l.account-index l.account-items) l.name l.cents else drop l.account-index l.account-items)
    ≡ with_balance l.account-items l.name l.cents

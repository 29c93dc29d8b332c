-- The balances of a ledger.
use Rattle.std.specs.Prelude.{ℕ, Bool, nat_eq, if◌then◌else◌, List, [], ◌∷◌, bytes_eq}
use Rattle.std.specs.Cmp.Lexicographic.{pointwise}
use Rattle.std.specs.Ordering.{on, eq_of_both}
use Rattle.billing.specs.declared.accounts.Account.{Account}

-- the balance of an account: nothing where it was never charged
abbrev pub balance : List Account → List ℕ → ℕ
balance [] name = 0
balance (account ∷ others) name = if bytes_eq account.name name then account.cents else balance others name

-- the accounts with another balance of this one, which is put behind the others where it is new
abbrev pub with_balance : List Account → List ℕ → ℕ → List Account
with_balance [] name cents = record { name = name; cents = cents } ∷ []
with_balance (account ∷ others) name cents =
    if bytes_eq account.name name then record { name = name; cents = cents } ∷ others
    else account ∷ with_balance others name cents

-- what `==` says of two ledgers' accounts
abbrev pub accounts_equal : List Account → List Account → Bool
accounts_equal = pointwise (eq_of_both (on (λ a. a.name) bytes_eq) (on (λ a. a.cents) nat_eq))

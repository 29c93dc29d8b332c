-- States that compare equal are equal.
use Rattle.std.specs.Prelude.{◌≡◌, ◌==◌, ◌&&◌, List, true, bytes_eq}
use Rattle.std.specs.Bool.{Decides}
use Rattle.std.proofs.Common.{refl, rules}
use Rattle.std.proofs.lemmas.Slice.Eq.{slice_eq-Decides, bytes_eq-Decides}
use Rattle.std.proofs.lemmas.Bool.Decides.{nat_tests}
use Rattle.billing.specs.declared.accounts.Account.{Account}
use Rattle.billing.specs.Accounts.{accounts_equal}

account_Decides : (a b : Account) → Decides (bytes_eq a.name b.name && (a.cents == b.cents)) (a ≡ b)
account_Decides a b = let names = bytes_eq-Decides a.name b.name in search (rules, nat_tests, names)

pub states_equal : (a b : List Account) → accounts_equal a b ≡ true → a ≡ b
states_equal a b e = (slice_eq-Decides account_Decides a b _ refl).0 e

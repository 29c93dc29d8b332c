-- What `parse` reads, as `number_in` says it.
use Rattle.std.proofs.Common.{◌≡◌, ◌<◌, ◌^◌, ℕ, List, Result, Ok, Err, true, arith}
use Rattle.std.specs.Result.{OkIff, result_ok}
use Rattle.std.specs.Str.{all_ascii_digits}
use Rattle.std.specs.Str.Parse.{IsNumeral, digits_value}
use Rattle.std.proofs.lemmas.Bool.Decides.{nat_tests}
use Rattle.std.proofs.lemmas.Str.Parse.{IsNumeralModel, numerals_by_value, tells_all_ascii_digits}
use Rattle.billing.specs.Requests.{number_in}

own : IsNumeralModel (λ ds. all_ascii_digits ds ≡ true) (digits_value 10)
own = numerals_by_value (λ ds. all_ascii_digits ds ≡ true) tells_all_ascii_digits

-- What parses as a number of 64 bits is the number that `number_in` finds.
pub number : {E : Type 0} (digits : List ℕ) (r : Result ℕ E) → OkIff r (IsNumeral 10 digits
    × (digits_value 10 digits < 2 ^ 64)) (digits_value 10 digits) → result_ok r ≡ number_in digits
number digits (Ok x) h = let all : all_ascii_digits digits ≡ true = own.from digits h.0.0.1 in grind (arith, nat_tests)
number digits (Err e) h = let to = own.to digits in grind (arith, nat_tests)

-- Lines in their shortest form: what their parts are.
use Rattle.std.proofs.Common.{◌≡◌, IsTrue, not, nat_eq, Result, Ok, ℕ, ◌<◌, ◌^◌, List, length, get_or, ap, sym, subst}
use Rattle.std.proofs.Common.{◌∙◌, refl, decimal, rules, arith}
use Rattle.std.specs.Str.Parse.{AllDigits, digits_value, IsNumeral, ParsesUnsigned, without_leading_plus}
use Rattle.std.proofs.lemmas.Str.Parse.{IsNumeralModel}
use Rattle.std.proofs.lemmas.Fmt.{decimal-digits_value}

-- Numbers that are found unequal differ.
pub differs : (m n : ℕ) → IsTrue (not (nat_eq m n)) → m ≡ n → ⊥
differs m n p = search rules

numerals : IsNumeralModel (AllDigits 10) (digits_value 10)
numerals = record { to = λ ds p. p; from = λ ds p. p; same = λ ds p. refl }

-- digits with no zero ahead are what is written of their number
pub shortest_digits : (ds : List ℕ) → IsNumeral 10 ds → (get_or ds 0 0 ≡ 48 → length ds ≡ 1)
    → digits_value 10 ds < 2 ^ 64 → decimal (digits_value 10 ds) ≡ ds
shortest_digits ds is none few = decimal-digits_value numerals ds is.1 is.0 none few

without_plus : (bs : List ℕ) → (get_or bs 0 0 ≡ 43 → ⊥) → without_leading_plus bs ≡ bs
without_plus bs unsigned = search rules

-- a text that is read as a number, with no sign and no zero ahead
pub number_written : {E : Type 0} (bs : List ℕ) (n : ℕ) (r : Result ℕ E) → ParsesUnsigned 32 10 bs r → r ≡ Ok n
    → (get_or bs 0 0 ≡ 43 → ⊥) → (get_or bs 0 0 ≡ 48 → length bs ≡ 1)
    → bs ≡ decimal n
number_written bs n r parses is unsigned few =
    let read = subst (λ r. ParsesUnsigned 32 10 bs r) is parses in
    let same : without_leading_plus bs ≡ bs = without_plus bs unsigned in
    let numeral : IsNumeral 10 bs = subst (IsNumeral 10) same read.0.0 in
    let small : digits_value 10 bs < 2 ^ 64 = omega (arith, subst (λ ds. digits_value 10 ds < 2 ^ 32) same read.0.1) in
    sym (ap decimal (read.1 ∙ ap (digits_value 10) same) ∙ shortest_digits bs numeral few small)

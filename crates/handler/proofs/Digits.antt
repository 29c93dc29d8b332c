-- The value of digits.
use Rattle.std.proofs.Common.{◌≡◌, ◌≤◌, ◌<◌, ℕ, ◌+◌, ◌-◌, ◌*◌, List, [], ◌∷◌, subst, arith}
use Rattle.std.specs.List.{fold}

-- the value of some digits that stand behind others of this value
abbrev pub value_from : ℕ → List ℕ → ℕ
value_from n digits = fold (λ n d. 10 * n + (d - 48)) n digits

-- further digits make the value no less
pub le-value_from : (n : ℕ) (digits : List ℕ) → n ≤ value_from n digits
le-value_from n [] = omega arith
le-value_from n (d ∷ digits) = let h = le-value_from (10 * n + (d - 48)) digits in omega arith

-- digits whose front is above a number are above it
pub above-front : (top n d value : ℕ) (digits rest : List ℕ) → digits ≡ d ∷ rest → value_from n digits ≡ value
    → top < 10 * n + (d - 48) → top < value
above-front top n d value digits rest e is h =
    let front : value_from n (d ∷ rest) ≡ value = subst (λ ds. value_from n ds ≡ value) e is in
    let more = le-value_from (10 * n + (d - 48)) rest in
    omega arith

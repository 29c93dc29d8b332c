-- Elements that are numbered from the last one down.
use Rattle.std.proofs.Common.{◌≡◌, ap, subst, ℕ, zero, suc, ◌-◌, ◌<◌, ◌≤◌, List, ◌∷◌, length, map, drop, get_or, arith}
use Rattle.std.proofs.Math.Seq.{drop-cons}
use Rattle.model.specs.Lists.{numbers_from}

-- one more element in front of those that are numbered
pub numbered_down : {X : Type 0} (f : X → ℕ) (xs : List X) (left : ℕ) (d : X)
    → 0 < left → left ≤ length xs → f (get_or xs (left - 1) d) ≡ left - 1
    → map f (drop left xs) ≡ numbers_from left (length xs - left)
    → map f (drop (left - 1) xs) ≡ numbers_from (left - 1) (length xs - (left - 1))
numbered_down f xs zero d pos within is h = absurd (omega arith)
numbered_down f xs (suc i) d pos within is h =
    let at : suc i - 1 ≡ i = omega arith in
    let rest : length xs - i ≡ suc (length xs - suc i) = omega arith in
    let here : f (get_or xs i d) ≡ i = subst (λ k. f (get_or xs k d) ≡ k) at is in
    rw (at, rest, drop-cons xs i d (omega arith), here) (ap (λ ns. i ∷ ns) h)

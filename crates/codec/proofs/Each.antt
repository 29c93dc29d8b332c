-- Values one behind the other, from one of them on.
use Rattle.std.proofs.Common.{◌≡◌, refl, sym, ◌∙◌, ap, ℕ, zero, suc, ◌+◌, ◌<◌, ◌≤◌, List, [], ◌∷◌, ◌++◌, length}
use Rattle.std.proofs.Common.{drop, take, arith, slice_index_or}
use Rattle.std.specs.Prelude.{Some, slice_get}
use Rattle.std.proofs.lemmas.Option.{slice_get_within, get_or_from_slice_get}

more : (i : ℕ) → suc i ≡ i + 1
more i = omega arith

suc_drop : {X : Type 0} (xs : List X) (i : ℕ) (d : X)
    → i < length xs → drop i xs ≡ slice_index_or xs i d ∷ drop (suc i) xs
suc_drop [] i d h = absurd (omega (arith, h))
suc_drop (x ∷ xs) zero d h = refl
suc_drop (x ∷ xs) (suc i) d h = suc_drop xs i d (omega (arith, h))

suc_take : {X : Type 0} (xs : List X) (i : ℕ) (d : X)
    → i < length xs → take (suc i) xs ≡ take i xs ++ slice_index_or xs i d ∷ []
suc_take [] i d h = absurd (omega (arith, h))
suc_take (x ∷ xs) zero d h = refl
suc_take (x ∷ xs) (suc i) d h = ap (λ ys. x ∷ ys) (suc_take xs i d (omega (arith, h)))

-- What is left of a list from a place on is the item there and what is behind it.
pub at_drop : {X : Type 0} (xs : List X) (i : ℕ) (x : X)
    → i < length xs → x ≡ slice_index_or xs i x → drop i xs ≡ x ∷ drop (i + 1) xs
at_drop xs i x h is =
    suc_drop xs i x h ∙ ap (λ y. y ∷ drop (suc i) xs) (sym is) ∙ ap (λ n. x ∷ drop n xs) (more i)

-- The same where the item is found there.
pub found_drop : {X : Type 0} (xs : List X) (i : ℕ) (x : X) → slice_get xs i ≡ Some x → drop i xs ≡ x ∷ drop (i + 1) xs
found_drop xs i x e = at_drop xs i x (slice_get_within xs i x e) (sym (get_or_from_slice_get xs i x x e))

-- A beginning goes on with the item there.
pub at_take : {X : Type 0} (xs : List X) (i : ℕ) (x : X)
    → i < length xs → x ≡ slice_index_or xs i x → take (i + 1) xs ≡ take i xs ++ x ∷ []
at_take xs i x h is =
    ap (λ n. take n xs) (sym (more i)) ∙ suc_take xs i x h ∙ ap (λ y. take i xs ++ y ∷ []) (sym is)

-- An item that is there, with what is behind it and before it.
pub there : {X : Type 0} (xs : List X) (i : ℕ) → i < length xs
    → (x : X) × (drop i xs ≡ x ∷ drop (i + 1) xs) × (take (i + 1) xs ≡ take i xs ++ x ∷ [])
there xs i h = let x = at xs i h in (x.0, at_drop xs i x.0 h x.1, at_take xs i x.0 h x.1)
  where
    at : {X : Type 0} (xs : List X) (i : ℕ) → i < length xs → (x : X) × (x ≡ slice_index_or xs i x)
    at [] i h = absurd (omega (arith, h))
    at (x ∷ xs) zero h = (x, refl)
    at (x ∷ xs) (suc i) h = at xs i (omega (arith, h))

pub from_start : {X : Type 0} (xs : List X) (n : ℕ) → length xs ≤ n → (take n xs ≡ xs) × (drop n xs ≡ [])
from_start [] zero h = (refl, refl)
from_start [] (suc n) h = (refl, refl)
from_start (x ∷ xs) zero h = absurd (omega (arith, h))
from_start (x ∷ xs) (suc n) h = let rest = from_start xs n (omega (arith, h)) in (ap (λ ys. x ∷ ys) rest.0, rest.1)

-- What is looked up by its place, and the first of some numbers and of a line.
use Rattle.std.proofs.Common.{◌≡◌, refl, ap, ℕ, zero, suc, ◌+◌, ◌-◌, ◌<◌, List, [], ◌∷◌, ◌++◌, length, arith, add-one}
use Rattle.std.specs.Prelude.{None, Some, slice_get}
use Rattle.std.proofs.lemmas.List.{append_assoc}
use Rattle.model.specs.Lists.{numbers_from}
use Rattle.model.specs.Nodes.{Node, line}
use Rattle.model.specs.Steps.{Outcome, at_unit, if_unit}
use Rattle.model.specs.World.{World, Member}

-- a place within the list has an element
pub get_below : {X : Type 0} (xs : List X) (i : ℕ) → i < length xs → (x : X) × (slice_get xs i ≡ Some x)
get_below [] i h = absurd (omega arith)
get_below (z ∷ xs) zero h = (z, refl)
get_below (z ∷ xs) (suc i) h = get_below xs i (omega arith)

-- the first of some numbers
pub numbers_first : (k n : ℕ) → 0 < n → numbers_from k n ≡ k ∷ numbers_from (k + 1) (n - 1)
numbers_first k zero h = absurd (omega arith)
numbers_first k (suc n) h = let e : suc n - 1 ≡ n = omega arith in rw (e, add-one) refl

-- one number more
pub numbers_step : (k n i : ℕ) (all more : List ℕ) → i < n → all ++ numbers_from (k + i) (n - i) ≡ numbers_from k n
    → more ≡ all ++ (k + i) ∷ []
    → more ++ numbers_from (k + (i + 1)) (n - (i + 1)) ≡ numbers_from k n
numbers_step k n i all more h e f =
    let a : k + (i + 1) ≡ (k + i) + 1 = omega arith in
    let b : n - (i + 1) ≡ (n - i) - 1 = omega arith in
    let c : 0 < n - i = omega arith in
    rw (f, a, b, append_assoc) (rw (numbers_first (k + i) (n - i) c) at e)

-- before the first node there is no line
pub line_none : (nodes : List Node) → line nodes None ≡ []
line_none [] = refl
line_none (n ∷ older) = refl

-- what is done at a unit that is there
pub at_unit_found : (w : World) (u : ℕ) (f : Member → Outcome) (m : Member) → slice_get w.members u ≡ Some m
    → at_unit w u f ≡ f m
unfolding at_unit
at_unit_found w u f m e = ap (if_unit w f) e

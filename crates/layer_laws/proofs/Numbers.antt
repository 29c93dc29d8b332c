-- Lists over the numbers from one on.
use Rattle.std.proofs.Common.{◌≡◌, refl, ◌∙◌, ap, ℕ, zero, suc, ◌+◌, ◌<◌, length, get_or, arith, map}
use Rattle.model.specs.Lists.{numbers_from}

-- A list of so many numbers, counted on from one, is that long.
pub length-numbers : (k n : ℕ) → length (numbers_from k n) ≡ n
length-numbers k zero = refl
length-numbers k (suc n) = ap suc (length-numbers (suc k) n)

-- what a map gives the number at a place
pub get_or-numbers : {X : Type 0} (f : ℕ → X) (d : X) (k n u : ℕ)
    → u < n → get_or (map f (numbers_from k n)) u d ≡ f (k + u)
get_or-numbers f d k zero u h = absurd (omega arith)
get_or-numbers f d k (suc n) zero h = ap f (let t : k ≡ k + 0 = omega arith in t)
get_or-numbers f d k (suc n) (suc u) h =
    get_or-numbers f d (suc k) n u (omega arith) ∙ ap f (let t : suc k + u ≡ k + suc u = omega arith in t)

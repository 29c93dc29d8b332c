-- Words on lists.
use Rattle.std.specs.Prelude.{ℕ, ◌-◌, Bool, cond, ◌==◌, List, [], ◌∷◌, ◌++◌, length, replicate}
use Rattle.std.specs.List.{list_any}

-- whether the number is in the list
abbrev pub has : List ℕ → ℕ → Bool
has xs x = list_any (λ y. y == x) xs

-- the element that has this many elements behind it, or d
abbrev pub from_end : {X : Type 0} → List X → ℕ → X → X
from_end [] k d = d
from_end (x ∷ xs) k d = cond (k == length xs) x (from_end xs k d)

-- the n numbers from k on
abbrev pub numbers_from : ℕ → ℕ → List ℕ
numbers_from k Prim.Native.Nat.zero = []
numbers_from k (Prim.Native.Nat.suc n) = k ∷ numbers_from (Prim.Native.Nat.suc k) n

-- the list, and up to n elements in all d for each that it lacks
abbrev pub padded : {X : Type 0} → X → List X → ℕ → List X
padded d xs n = xs ++ replicate (n - length xs) d

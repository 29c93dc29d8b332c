-- Laws of the lists of an index.
use Rattle.std.proofs.Common.{◌≡◌, refl, ℕ, zero, suc, List, [], ◌∷◌, ◌++◌}
use Rattle.shared_log.specs.Index.{of_unit}

-- an empty list more
pub push_empty : (units : List (List ℕ)) (unit : ℕ) → of_unit (units ++ [] ∷ []) unit ≡ of_unit units unit
push_empty [] zero = refl
push_empty [] (suc unit) = refl
push_empty (x ∷ units) zero = refl
push_empty (x ∷ units) (suc unit) = push_empty units unit

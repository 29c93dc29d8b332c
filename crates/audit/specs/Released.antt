-- Words on what was released, beside what units put out.
use Rattle.std.specs.Prelude.{ℕ, List, [], ◌∷◌}
use mathlib.Core.List.{IsPrefix}
use Rattle.model.specs.FailureFree.{Worker}

-- u is the first unit whose outputs do not begin with its list
abbrev pub DiffersFirst : {S : Type 0} → List (Worker S) → List (List (List ℕ)) → ℕ → Type 0
DiffersFirst [] released u = ⊥
DiffersFirst (a ∷ workers) [] u = ⊥
DiffersFirst (a ∷ workers) (r ∷ released) Prim.Native.Nat.zero = ¬ (IsPrefix r a.outputs)
DiffersFirst (a ∷ workers) (r ∷ released) (Prim.Native.Nat.suc u) =
    IsPrefix r a.outputs × DiffersFirst workers released u

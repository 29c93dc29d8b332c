-- An index that no snapshot is above.
use Rattle.std.proofs.Common.{◌≡◌, inl, inr, refl, subst, ℕ, ◌≤◌, zero, suc, Bool, true, List, [], ◌∷◌}
use Rattle.std.specs.Prelude.{Option, Some, None, slice_get}
use Rattle.std.specs.List.{list_all}
use Rattle.std.specs.Option.{option_map_or}
use Rattle.std.proofs.lemmas.Option.{same_Some}
use Rattle.theory.proofs.ListLaws.{le_true, true_le, and_both, both_and}
use Rattle.checkpoint.specs.declared.snapshot.Snapshot.{Snapshot}
use Rattle.checkpoint.specs.Shelves.{Shelved, IsTop, is_within, tops}

all_hold : {S : Type 0} (p : Snapshot S → Bool) (xs : List (Snapshot S)) (i : ℕ) (x : Snapshot S)
    → list_all p xs ≡ true → slice_get xs i ≡ Some x → p x ≡ true
all_hold p [] i x e f = cc
all_hold p (z ∷ xs) zero x e f = subst (λ y. p y ≡ true) (same_Some z x f) (and_both (p z) (list_all p xs) e).0
all_hold p (z ∷ xs) (suc i) x e f = all_hold p xs i x (and_both (p z) (list_all p xs) e).1 f

-- Where the test for the top of a shelf passes, no snapshot is above the index.
pub top_is : {S : Type 0} (s : Shelved S) (index : ℕ) → tops s index ≡ true → IsTop s index
top_is s index e x (inl h) =
    le_true x.index index (subst (λ b. option_map_or (is_within index) b true ≡ true) h (and_both _ _ e).0)
top_is s index e x (inr h) = le_true x.index index (all_hold (is_within index) s.others h.0 x (and_both _ _ e).1 h.1)

hold_all : {S : Type 0} (p : Snapshot S → Bool) (xs : List (Snapshot S))
    → ((i : ℕ) (x : Snapshot S) → slice_get xs i ≡ Some x → p x ≡ true) → list_all p xs ≡ true
hold_all p [] each = refl
hold_all p (z ∷ xs) each = both_and _ _ (each zero z refl) (hold_all p xs (λ i x f. each (suc i) x f))

base_within : {S : Type 0} (base : Option (Snapshot S)) (index : ℕ)
    → ((x : Snapshot S) → base ≡ Some x → x.index ≤ index) → option_map_or (is_within index) base true ≡ true
base_within None index each = refl
base_within (Some b) index each = true_le b.index index (each b refl)

-- Where no snapshot is above the index, the test for the top passes.
pub is_top_by : {S : Type 0} (s : Shelved S) (index : ℕ) → IsTop s index → tops s index ≡ true
is_top_by s index top = both_and _ _ (base_within s.base index (λ x e. top x (inl e)))
    (hold_all (is_within index) s.others (λ i x f. true_le x.index index (top x (inr (i, f)))))

-- What the calls on a shelf give.
use Rattle.std.specs.Prelude.{◌≡◌, ◌⊎◌, ℕ, ◌+◌, ◌<◌, ◌≤◌, Bool, true, false, cond, ◌&&◌, ◌||◌, ◌==◌, nat_lt, nat_le}
use Rattle.std.specs.Prelude.{List, [], ◌∷◌, ◌++◌, length, drop, Option, Some, None, option_and_then, slice_get}
use Rattle.std.specs.List.{fold, list_all, list_any, position_or_len, remove, take_while}
use Rattle.std.specs.Option.{option_map_or}
use Rattle.model.specs.declared.limits.TheConstants.{MAX_CHECKPOINTS}
use Rattle.checkpoint.specs.declared.snapshot.Snapshot.{Snapshot}

-- the snapshot that never goes, and the others in the order of putting
pub record Shelved (S : Type 0) : Type 0 where
  pub base : Option (Snapshot S)
  pub others : List (Snapshot S)

-- indices rise in the order of putting, and the base is below all others
pub record Rises {S : Type 0} (base : Option (Snapshot S)) (others : List (Snapshot S)) : Type 0 where
  pub above : (b : Snapshot S) (i : ℕ) (x : Snapshot S) → base ≡ Some b → slice_get others i ≡ Some x
      → b.index < x.index
  pub rising : (i j : ℕ) (x y : Snapshot S) → i < j → slice_get others i ≡ Some x → slice_get others j ≡ Some y
      → x.index < y.index

-- the index is greater than this one, if there is one
abbrev pub is_index_behind : Option ℕ → ℕ → Bool
is_index_behind None index = true
is_index_behind (Some last) index = nat_lt last index

-- whether each index is greater than the one before it, the first greater than this one, if there is one
abbrev pub are_rising : {S : Type 0} → Option ℕ → List (Snapshot S) → Bool
are_rising last [] = true
are_rising last (x ∷ xs) = is_index_behind last x.index && are_rising (Some x.index) xs

-- this snapshot is there
abbrev pub IsShelved : {S : Type 0} → Shelved S → Snapshot S → Type 0
IsShelved s x = (s.base ≡ Some x) ⊎ ((i : ℕ) × (slice_get s.others i ≡ Some x))

-- no snapshot is above the index
abbrev pub IsTop : {S : Type 0} → Shelved S → ℕ → Type 0
IsTop s index = (x : _) → IsShelved s x → x.index ≤ index

abbrev pub is_within : {S : Type 0} → ℕ → Snapshot S → Bool
is_within index x = nat_le x.index index

-- whether no snapshot is above the index
abbrev pub tops : {S : Type 0} → Shelved S → ℕ → Bool
tops s index = option_map_or (is_within index) s.base true && list_all (is_within index) s.others

abbrev pub is_at : {S : Type 0} → ℕ → Snapshot S → Bool
is_at index x = x.index == index

-- a snapshot of this index is shelved
abbrev pub has_index : {S : Type 0} → Shelved S → ℕ → Bool
has_index s index = option_map_or (is_at index) s.base false || list_any (is_at index) s.others

-- as many others as may be kept: then the one first put goes
abbrev pub making_room : {S : Type 0} → List (Snapshot S) → List (Snapshot S)
making_room others = cond (nat_lt (length others) MAX_CHECKPOINTS) others (remove others 0)

-- one more snapshot; one at an index that is shelved leaves the shelf as it is
abbrev pub put_on : {S : Type 0} → Shelved S → Snapshot S → Shelved S
put_on s x = cond (has_index s x.index) s (record s { others = making_room s.others ++ x ∷ [] })

-- this snapshot, where it is not above the index, else the best so far
abbrev pub later_of : {S : Type 0} → ℕ → Option (Snapshot S) → Snapshot S → Option (Snapshot S)
later_of index best x = cond (nat_le x.index index) (Some x) best

-- the last snapshot that is not above the index
abbrev pub nearest_of : {S : Type 0} → Shelved S → ℕ → Option (Snapshot S)
nearest_of s index = fold (later_of index) (option_and_then (later_of index None) s.base) s.others

-- this snapshot is there, and is of the greatest index not above this one
pub record IsNearest {S : Type 0} (s : Shelved S) (index : ℕ) (x : Snapshot S) : Type 0 where
  pub there : IsShelved s x
  pub not_above : x.index ≤ index
  pub greatest : (y : Snapshot S) → IsShelved s y → y.index ≤ index → y.index ≤ x.index

-- every snapshot is above the index
abbrev pub AllAbove : {S : Type 0} → Shelved S → ℕ → Type 0
AllAbove s index = (y : _) → IsShelved s y → index < y.index

-- those others that are below the index
abbrev pub cut_at : {S : Type 0} → Shelved S → ℕ → Shelved S
cut_at s index = record s { others = take_while (λ x. nat_lt x.index index) s.others }

-- The first of the others that is at the index is the base, and those behind it stay.
abbrev pub based_at : {S : Type 0} → Shelved S → ℕ → Shelved S
based_at s index =
    let at = position_or_len (is_at index) s.others in
    record { base = slice_get s.others at; others = drop (at + 1) s.others }

-- What is found on a shelf on which the last interval was put.
use Rattle.std.proofs.Common.{◌≡◌, ◌⊎◌, inl, inr, refl, ap, ℕ, zero, suc, ◌≤◌, ◌^◌, Bool, true, false, cond, List, ◌∷◌}
use Rattle.std.proofs.Common.{◌++◌, [], length, arith}
use Rattle.std.specs.Prelude.{Option, Some, None, slice_get, nat_lt, option_map}
use Rattle.std.specs.List.{list_any, remove}
use Rattle.std.specs.Option.{is_some, option_map_or}
use Rattle.std.proofs.lemmas.Option.{slice_get_within}
use Rattle.model.proofs.Places.{get_below}
use Rattle.theory.proofs.ListLaws.{any_at, append_get, append_get_last, bool_cases, eq_true, or_cases, lt_false}
use Rattle.checkpoint.specs.declared.snapshot.Snapshot.{Snapshot}
use Rattle.checkpoint.specs.Shelves.{Shelved, Rises, IsShelved, IsTop, has_index, is_at, nearest_of, put_on}
use Rattle.checkpoint.specs.Shelves.{making_room}
use Rattle.checkpoint.proofs.Nearest.{nearest_some, nearest_none}
use Rattle.rollback.specs.Units.{IsKept, KeepsShelved, Recovering, shelf_with}
use Rattle.rollback.proofs.StaysKept.{put_rises}

-- a snapshot of its own index is the nearest to it, or one of the same index is
nearest_at : {P : Type 0} (s : Shelved P) (y : Snapshot P) → Rises s.base s.others
    → IsShelved s y → option_map (λ (x : Snapshot P). x.index) (nearest_of s y.index) ≡ Some y.index
nearest_at {P} s y r there = go (nearest_of s y.index) refl
  where
    go : (o : Option (Snapshot P))
        → nearest_of s y.index ≡ o → option_map (λ (x : Snapshot P). x.index) o ≡ Some y.index
    go None e = absurd (let h = nearest_none s r y.index e y there in omega (arith, h))
    go (Some x) e = let n = nearest_some s r y.index x e in let a = n.not_above in
        let b = n.greatest y there (omega arith) in let is : x.index ≡ y.index = omega (arith, a, b) in ap Some is

-- what is at an index is shelved
has_there : {P : Type 0} (s : Shelved P) (n : ℕ)
    → has_index s n ≡ true → (y : Snapshot P) × IsShelved s y × (y.index ≡ n)
has_there {P} s n e = elim (or_cases (option_map_or (is_at n) s.base false) (list_any (is_at n) s.others) e) [
  | inl h ↦ base s.base refl h
  | inr h ↦ let t = any_at (is_at n) s.others h in (t.1.0, inr (t.0, t.1.1), eq_true t.1.0.index n t.1.2)
]
  where
    base : (o : Option (Snapshot P))
        → s.base ≡ o → option_map_or (is_at n) o false ≡ true → (y : Snapshot P) × IsShelved s y × (y.index ≡ n)
    base None is h = cc
    base (Some y) is h = (y, inl is, eq_true y.index n h)

-- what was put is at its index
put_there : {P : Type 0} (s : Shelved P) (x : Snapshot P)
    → (y : Snapshot P) × IsShelved (put_on s x) y × (y.index ≡ x.index)
put_there {P} s x = go (has_index s x.index) refl
  where
    go : (b : Bool) → has_index s x.index ≡ b → (y : Snapshot P)
        × IsShelved (cond b s (record s { others = making_room s.others ++ x ∷ [] })) y × (y.index ≡ x.index)
    go true e = has_there s x.index e
    go false e = (x, inr (length (making_room s.others), append_get_last (making_room s.others) x), refl)

-- Where a snapshot is put on top of a shelf, the nearest one to its index is of that index.
pub shelved_nearest : {P : Type 0} (s : Shelved P) (index : ℕ) (o : Option P) → IsTop s index → Rises s.base s.others
    → is_some o ≡ true → option_map (λ (x : Snapshot P). x.index) (nearest_of (shelf_with s index o) index) ≡ Some index
shelved_nearest s index None top r e = cc
shelved_nearest {P} s index (Some p) top r e =
    let x : Snapshot P = record { index = index; state = p } in
    let t = put_there s x in
    let is : t.0.index ≡ index = t.2 in
    rw is at (nearest_at (put_on s x) t.0 (put_rises s x top r) t.1)

-- what was shelved stays, but for the first where there is no room
room_keeps : {P : Type 0} (others : List (Snapshot P)) (i : ℕ) (x : Snapshot P) → slice_get others i ≡ Some x
    → ((j : ℕ) × (slice_get (making_room others) j ≡ Some x)) ⊎ ((64 ≤ length others) × (slice_get others 0 ≡ Some x))
room_keeps {P} others i x e = elim (bool_cases (nat_lt (length others) 64)) [
  | inl h ↦ inl (i, rw h e)
  | inr h ↦ rw h (go others i e (lt_false (length others) 64 h))
]
  where
    go : (xs : List (Snapshot P)) (i : ℕ) → slice_get xs i ≡ Some x → 64 ≤ length xs
        → ((j : ℕ) × (slice_get (remove xs 0) j ≡ Some x)) ⊎ ((64 ≤ length xs) × (slice_get xs 0 ≡ Some x))
    go [] i f m = cc
    go (y ∷ xs) zero f m = inr (m, f)
    go (y ∷ xs) (suc j) f m = inl (j, f)

put_keeps : {P : Type 0} (s : Shelved P) (x : Snapshot P) → KeepsShelved s (put_on s x)
put_keeps {P} s x = go (has_index s x.index)
  where
    go : (b : Bool) → KeepsShelved s (cond b s (record s { others = making_room s.others ++ x ∷ [] }))
    go true = record { base = refl; others = λ y there. inl there }
    go false = record { base = refl; others = kept }
      where
        kept : (y : Snapshot P) → IsShelved s y → IsShelved (record s { others = making_room s.others ++ x ∷ [] }) y
            ⊎ ((64 ≤ length s.others) × (slice_get s.others 0 ≡ Some y))
        kept y (inl e) = inl (inl e)
        kept y (inr t) = elim (room_keeps s.others t.0 y t.1) [
          | inl h ↦ inl (inr (h.0, append_get (making_room s.others) (x ∷ []) h.0 y h.1))
          | inr h ↦ inr h
        ]

-- A shelf on which a snapshot may be put keeps what it had, but for the first where it is full.
pub shelved_keeps : {P : Type 0} (s : Shelved P) (index : ℕ) (o : Option P) → KeepsShelved s (shelf_with s index o)
shelved_keeps s index None = record { base = refl; others = λ y there. inl there }
shelved_keeps {P} s index (Some p) = put_keeps s (record { index = index; state = p })

-- ---- how many there are

-- indices rise, so each is at least its place
at_least : {P : Type 0} (base : Option (Snapshot P)) (others : List (Snapshot P))
    → Rises base others → (i : ℕ) (x : Snapshot P) → slice_get others i ≡ Some x → i ≤ x.index
at_least base others r zero x e = omega arith
at_least base others r (suc i) x e =
    let within = slice_get_within others (suc i) x e in
    let y = get_below others i (omega (arith, within)) in
    let low = at_least base others r i y.0 y.1 in
    let less = r.rising i (suc i) y.0 x (omega arith) y.1 e in
    omega (arith, low, less)

-- so there are no more than a path can have intervals
pub few_others : {S : Type 0} (u : Recovering S) → IsKept u → length u.shelf.others ≤ 2 ^ 32
few_others {S} u k = go (length u.shelf.others) refl
  where
    go : (n : ℕ) → length u.shelf.others ≡ n → length u.shelf.others ≤ 2 ^ 32
    go zero e = omega (arith, e)
    go (suc n) e =
        let x = get_below u.shelf.others n (omega (arith, e)) in
        let low = at_least u.shelf.base u.shelf.others k.rises n x.0 x.1 in
        let top = k.top x.0 (inr (n, x.1)) in
        let few = k.few in
        let stable = k.stable in
        omega (arith, e, low, top, few, stable)

-- The places and snapshots of a unit that is seen.
use Rattle.std.proofs.Common.{◌≡◌, ◌⊎◌, inl, inr, sym, ◌∙◌, ap, ℕ, ◌+◌, ◌-◌, ◌<◌, ◌≤◌, length, arith}
use Rattle.std.specs.Prelude.{Some, slice_get, option_map}
use Rattle.std.proofs.lemmas.Option.{same_Some}
use Rattle.theory.proofs.ListLaws.{at_map, map_at}
use Rattle.model.specs.Handler.{Meaning}
use Rattle.checkpoint.specs.declared.snapshot.Snapshot.{Snapshot as Shelf}
use Rattle.checkpoint.specs.Shelves.{IsShelved}
use Rattle.compact.specs.Compact.{Progress, Snapshot, CompactUnit}
use Rattle.compact.specs.Steps.{places as all_of}
use Rattle.rollback.specs.Units.{Recovering, IsKept, places}
use Rattle.rollback_laws.specs.Seen.{HasPlaces, IsSeen, shelved_as}
use Rattle.rollback_laws.specs.Laws.{PlacesAreSeen}

module _ {S : Type 0} (r : Recovering S) (x : CompactUnit S) (k : IsKept r) (s : IsSeen r x) where
  -- The base of a compact unit has the index of the recovery unit's base.
  pub base_is : x.base.index ≡ r.base
  base_is =
      same_Some x.base.index r.base (ap (λ o. option_map (λ (b : Shelf (Progress S)). b.index) o) (sym s.base) ∙ k.base)

  -- A compact unit has as many places as the recovery unit that keeps it.
  pub places_are : all_of x ≡ places r
  places_are = λ i. base_is i + length (s.intervals i)

  -- A compact unit's stable length is all that the recovery unit has but its volatile records.
  pub stable_is : x.stable ≡ (r.base + length r.intervals) - length r.volatile
  stable_is = s.stable

  -- A recovery unit has fewer volatile records than intervals.
  pub some_stable : length r.volatile < length r.intervals
  some_stable = k.stable

  has_places : HasPlaces r x
  has_places = record {
    base = base_is;
    long = places_are;
    unstable = let a : x.base.index + length x.intervals ≡ r.base + length r.intervals = places_are in
        let b = stable_is in let c = some_stable in omega (arith, a, b, c);
  }

  -- a snapshot of the shelf is shelved
  pub shelf_there : (i : ℕ) (t : Snapshot S)
      → slice_get x.shelf i ≡ Some t → slice_get r.shelf.others i ≡ Some (shelved_as t)
  shelf_there i t e = ap (λ ys. slice_get ys i) s.shelf ∙ at_map shelved_as x.shelf i t e

  -- and no snapshot is behind the stable places
  pub shelf_low : (i : ℕ) (t : Snapshot S) → slice_get x.shelf i ≡ Some t → t.index < x.stable
  shelf_low i t e =
      let h : t.index ≤ ((r.base + length r.intervals) - length r.volatile) - 1 =
      k.top (shelved_as t) (inr (i, shelf_there i t e)) in
      let b = stable_is in
      let c = some_stable in
      omega (arith, h, b, c)

  pub base_low : x.base.index < x.stable
  base_low = let a = base_is in let b = stable_is in let c = some_stable in omega (arith, a, b, c)

  -- what is shelved is the base or of the shelf
  pub shelved_there : (y : Shelf (Progress S)) → IsShelved r.shelf y
      → (t : Snapshot S) × ((t ≡ x.base) ⊎ ((i : ℕ) × (slice_get x.shelf i ≡ Some t))) × (y ≡ shelved_as t)
  shelved_there y (inl e) = (x.base, inl (λ i. x.base), sym (same_Some (shelved_as x.base) y (sym s.base ∙ e)))
  shelved_there y (inr h) = let m = map_at shelved_as x.shelf h.0 y (ap (λ ys. slice_get ys h.0) (sym s.shelf) ∙ h.1) in
      (m.0, inr (h.0, m.1), m.2)

  -- Each snapshot of a compact unit is of a stable interval.
  pub low : (t : Snapshot S) → (t ≡ x.base) ⊎ ((i : ℕ) × (slice_get x.shelf i ≡ Some t)) → t.index < x.stable
  low t (inl e) = let a : t.index ≡ x.base.index = ap (λ (z : Snapshot S). z.index) e in
      let b = base_low in omega (arith, a, b)
  low t (inr h) = shelf_low h.0 t h.1

  -- and none is before the base
  pub behind : (i : ℕ) (t : Snapshot S) → slice_get x.shelf i ≡ Some t → x.base.index < t.index
  behind i t e = k.rises.above (shelved_as x.base) i (shelved_as t) s.base (shelf_there i t e)

  -- No snapshot of a compact unit is before its base.
  pub high : (t : Snapshot S) → (t ≡ x.base) ⊎ ((i : ℕ) × (slice_get x.shelf i ≡ Some t)) → x.base.index ≤ t.index
  high t (inl e) = let a : t.index ≡ x.base.index = ap (λ (z : Snapshot S). z.index) e in omega (arith, a)
  high t (inr h) = let a = behind h.0 t h.1 in omega (arith, a)

module _ {S : Type 0} (M : Meaning S) where
  -- A recovery unit and the compact unit that it keeps agree on base, places and unstable places.
  pub places_are_seen : PlacesAreSeen M
  places_are_seen r x k s = has_places r x k s

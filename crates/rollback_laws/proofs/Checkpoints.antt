-- What a checkpoint puts on the shelf.
use Rattle.std.proofs.Common.{◌≡◌, ◌⊎◌, inl, inr, refl, sym, ◌∙◌, ap, ℕ, suc, ◌-◌, ◌<◌, ◌≤◌, true, false, cond, ◌||◌}
use Rattle.std.proofs.Common.{List, [], ◌∷◌, ◌++◌, length, drop, arith, map}
use Rattle.std.specs.Prelude.{Some, slice_get, nat_lt, ◌==◌}
use Rattle.std.specs.List.{list_any, remove}
use Rattle.std.specs.Option.{option_map_or}
use Rattle.theory.proofs.ListLaws.{any_none, at_any, at_map, bool_cases, lt_true, map_at, or_left, or_right, true_eq}
use Rattle.theory.proofs.ListLaws.{lt_false}
use Rattle.model.specs.Handler.{Meaning}
use Rattle.checkpoint.specs.declared.snapshot.Snapshot.{Snapshot as Shelf}
use Rattle.checkpoint.specs.Shelves.{Shelved, IsTop, Rises, has_index, is_at, put_on, making_room}
use Rattle.compact.specs.Compact.{Progress, Snapshot, CompactUnit}
use Rattle.compact.specs.Steps.{last_shelved, places as all_of, shelved_unit}
use Rattle.compact.proofs.Words.{map_push}
use Rattle.compact.proofs.Checkpoints.{last_greatest}
use Rattle.rollback.specs.Units.{Recovering, IsKept, checkpointed, places, shelf_with}
use Rattle.rollback.proofs.Forgetting.{unequal}
use Rattle.rollback.proofs.StaysKept.{last_top}
use Rattle.rollback_laws.specs.Seen.{IsSeen, shelved_as}
use Rattle.rollback_laws.specs.Laws.{CheckpointsAreSeen}
use Rattle.rollback_laws.proofs.Places.{places_are}

-- the last is the base or of the shelf
last_there : {S : Type 0} (base : ℕ) (xs : List (Snapshot S)) → (base ≡ last_shelved base xs)
    ⊎ ((i : ℕ) × ((t : Snapshot S) × (slice_get xs i ≡ Some t) × (t.index ≡ last_shelved base xs)))
last_there base [] = inl refl
last_there base (y ∷ ys) = elim (last_there y.index ys) [
  | inl e ↦ inr (0, (y, refl, e))
  | inr h ↦ inr (suc h.0, h.1)
]

removed : {S : Type 0} (xs : List (Snapshot S)) (t : Snapshot S) → 64 ≤ length (map shelved_as xs)
    → remove (map shelved_as xs) 0 ++ shelved_as t ∷ [] ≡ map shelved_as (drop 1 (xs ++ t ∷ []))
removed [] t h = absurd (omega (arith, h))
removed (y ∷ ys) t h = sym (map_push shelved_as ys t)

-- one more where there is room, and else the first goes
roomed : {S : Type 0} (xs : List (Snapshot S)) (t : Snapshot S) → (n : ℕ)
    × (n ≤ 1) × (making_room (map shelved_as xs) ++ shelved_as t ∷ [] ≡ map shelved_as (drop n (xs ++ t ∷ [])))
roomed {S} xs t = elim (bool_cases (nat_lt (length (map shelved_as xs)) 64)) [
  | inl e ↦ (
    0,
    omega arith,
    ap (λ b. cond b (map shelved_as xs) (remove (map shelved_as xs) 0) ++ shelved_as t ∷ []) e
        ∙ sym (map_push shelved_as xs t),
  )
  | inr e ↦ (
    1,
    omega arith,
    ap (λ b. cond b (map shelved_as xs) (remove (map shelved_as xs) 0) ++ shelved_as t ∷ []) e
        ∙ removed xs t (lt_false (length (map shelved_as xs)) 64 e),
  )
]

module _ {S : Type 0} (sh : Shelved (Progress S)) (b : Snapshot S) (xs : List (Snapshot S))
    (base : sh.base ≡ Some (shelved_as b)) (others : sh.others ≡ map shelved_as xs) (rises : Rises sh.base sh.others)
    (t : Snapshot S) (top : IsTop sh t.index) where
  there : (i : ℕ) (y : Snapshot S) → slice_get xs i ≡ Some y → slice_get sh.others i ≡ Some (shelved_as y)
  there i y e = ap (λ ys. slice_get ys i) others ∙ at_map shelved_as xs i y e

  bounds : (b.index ≤ last_shelved b.index xs)
      × ((i : ℕ) (y : Snapshot S) → slice_get xs i ≡ Some y → y.index ≤ last_shelved b.index xs)
  bounds = last_greatest b.index xs (λ i y e. rises.above (shelved_as b) i (shelved_as y) base (there i y e))
      (λ i j y z h e f. rises.rising i j (shelved_as y) (shelved_as z) h (there i y e) (there j z f))

  -- none is at an index above the last
  absent : last_shelved b.index xs < t.index → has_index sh t.index ≡ false
  absent h =
      let first : (b.index == t.index) ≡ false = let low = bounds.0 in
      unequal b.index t.index (λ q. omega (arith, q, h, low)) in
      let rest : list_any (is_at t.index) (map shelved_as xs) ≡ false =
      any_none (is_at t.index) (map shelved_as xs) (λ i y e.
      let m = map_at shelved_as xs i y e in
      let same : y.index ≡ m.0.index = ap (λ (z : Shelf (Progress S)). z.index) m.2 in
      let low = bounds.1 i m.0 m.1 in
      unequal y.index t.index (λ q. omega (arith, q, h, low, same))) in
      (λ j. option_map_or (is_at t.index) (base j) false || list_any (is_at t.index) (others j))
      ∙ (λ j. first j || rest j)

  -- one is at the top where the last is no less
  present : t.index ≤ last_shelved b.index xs → has_index sh t.index ≡ true
  present h = elim (last_there b.index xs) [
    | inl e ↦
        let low : b.index ≤ t.index = top (shelved_as b) (inl base) in
        let at : b.index ≡ t.index = omega (arith, e, h, low) in
        or_left (option_map_or (is_at t.index) sh.base false) (list_any (is_at t.index) sh.others)
        (ap (λ o. option_map_or (is_at t.index) o false) base ∙ true_eq b.index t.index at)
    | inr f ↦
        let y = f.1.0 in
        let e : y.index ≡ last_shelved b.index xs = f.1.2 in
        let low : y.index ≤ t.index = top (shelved_as y) (inr (f.0, there f.0 y f.1.1)) in
        let at : y.index ≡ t.index = omega (arith, e, h, low) in
        or_right (option_map_or (is_at t.index) sh.base false) (list_any (is_at t.index) sh.others)
        (at_any (is_at t.index) sh.others f.0 (shelved_as y) (there f.0 y f.1.1) (true_eq y.index t.index at))
  ]

  abbrev more : Shelved (Progress S)
  more = record sh { others = making_room sh.others ++ shelved_as t ∷ [] }

  put_seen : (n : ℕ) × (n ≤ 1)
      × ((put_on sh (shelved_as t)).base ≡ Some (shelved_as b)) × ((put_on sh (shelved_as t)).others
      ≡ map shelved_as (drop n (cond (nat_lt (last_shelved b.index xs) t.index) (xs ++ t ∷ []) xs)))
  put_seen = elim (bool_cases (nat_lt (last_shelved b.index xs) t.index)) [
    | inl e ↦
        let put : put_on sh (shelved_as t) ≡ more =
        ap (λ z. cond z sh more) (absent (lt_true (last_shelved b.index xs) t.index e)) in
        let room = roomed xs t in (
          room.0,
          room.1,
          ap (λ (z : Shelved (Progress S)). z.base) put ∙ base,
          ap (λ (z : Shelved (Progress S)). z.others) put ∙ ap (λ ys. making_room ys ++ shelved_as t ∷ []) others
              ∙ room.2 ∙ ap (λ z. map shelved_as (drop room.0 (cond z (xs ++ t ∷ []) xs))) (sym e),
        )
    | inr e ↦
        let put : put_on sh (shelved_as t) ≡ sh =
        ap (λ z. cond z sh more) (present (lt_false (last_shelved b.index xs) t.index e)) in (
          0,
          omega arith,
          ap (λ (z : Shelved (Progress S)). z.base) put ∙ base,
          ap (λ (z : Shelved (Progress S)). z.others) put
              ∙ others ∙ ap (λ z. map shelved_as (cond z (xs ++ t ∷ []) xs)) (sym e),
        )
  ]

module _ {S : Type 0} (r : Recovering S) (x : CompactUnit S)
    (k : IsKept r) (s : IsSeen r x) (whole : r.volatile ≡ []) (p : Progress S) (up : r.progress ≡ Some p) where
  abbrev newest : Snapshot S
  newest = record { index = all_of x - 1; progress = x.now }

  newest_is : shelved_as newest ≡ record { index = places r - 1; state = p }
  newest_is = λ i. record { index = places_are r x k s i - 1; state = s.now p up i }

  top : IsTop r.shelf newest.index
  top = last_top r newest.index k (ap length whole) (ap (λ n. n - 1) (places_are r x k s))

  put : (n : ℕ) × (n ≤ 1) × ((put_on r.shelf (shelved_as newest)).base ≡ Some (shelved_as x.base))
      × ((put_on r.shelf (shelved_as newest)).others ≡ map shelved_as (drop n (shelved_unit x).shelf))
  put = put_seen r.shelf x.base x.shelf s.base s.shelf k.rises newest top

  shelf_is : (checkpointed r).shelf ≡ put_on r.shelf (shelved_as newest)
  shelf_is = ap (shelf_with r.shelf (places r - 1)) up ∙ ap (put_on r.shelf) (sym newest_is)

  checkpoint_seen : (n : ℕ) × (n ≤ 1)
      × IsSeen (checkpointed r) (record (shelved_unit x) { shelf = drop n (shelved_unit x).shelf })
  checkpoint_seen = (
    put.0,
    put.1,
    record {
      seat = s.seat;
      up = s.up;
      now = s.now;
      stable = s.stable;
      outside = s.outside;
      base = ap (λ (z : Shelved (Progress S)). z.base) shelf_is ∙ put.2;
      shelf = ap (λ (z : Shelved (Progress S)). z.others) shelf_is ∙ put.3;
      intervals = s.intervals;
      volatile = s.volatile;
    },
  )

module _ {S : Type 0} (M : Meaning S) where
  -- A recovery unit after a checkpoint keeps the compact unit after one, perhaps without its first snapshot.
  pub checkpoints_are_seen : CheckpointsAreSeen M
  checkpoints_are_seen r x k s whole p up = checkpoint_seen r x k s whole p up

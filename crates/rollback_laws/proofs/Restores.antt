-- What a unit is after it went back.
use Rattle.std.proofs.Common.{◌≡◌, ◌⊎◌, inl, refl, sym, ◌∙◌, ap, subst, ℕ, ◌+◌, ◌-◌, ◌<◌, ◌≤◌, min, List, ◌++◌, length}
use Rattle.std.proofs.Common.{take, drop, arith, map, length-take}
use Rattle.std.specs.Prelude.{Option, Some, None, slice_get, nat_lt, option_map}
use Rattle.std.specs.List.{take_while}
use Rattle.std.specs.Option.{is_some}
use Rattle.std.proofs.lemmas.List.{drop-append-le, length-drop, length-map, map-append, take-map, take_all}
use Rattle.std.proofs.lemmas.Option.{same_Some}
use native.Mathlib.Decide.{dec_le}
use Rattle.model.specs.declared.records.Record.{Record}
use Rattle.model.specs.Handler.{Meaning}
use Rattle.checkpoint.specs.declared.snapshot.Snapshot.{Snapshot as Shelf}
use Rattle.checkpoint.specs.Shelves.{nearest_of}
use Rattle.checkpoint.proofs.Nearest.{nearest_none, nearest_some}
use Rattle.volatile_log.specs.Logs.{records_below}
use Rattle.layer_laws.proofs.Fronts.{same_front}
use Rattle.compact.specs.Compact.{Compact, Progress, Snapshot, CompactUnit, fitted}
use Rattle.compact.specs.Laws.{replayed}
use Rattle.compact.specs.Steps.{back_unit, from_outside, kept_places}
use Rattle.compact.specs.StepLaws.{IsFetched, IsRebuilt}
use Rattle.rollback.specs.Units.{Recovering, IsKept, IsTarget, records_to, restored}
use Rattle.rollback.proofs.Cuts.{below_is}
use Rattle.rollback_laws.specs.Seen.{BeginsAt, IsRead, IsRestored, IsSeen, shelved_as}
use Rattle.rollback_laws.specs.Laws.{RestoresAreSeen}
use Rattle.rollback_laws.proofs.Lists.{take_append}
use Rattle.rollback_laws.proofs.Places.{base_is, high, low, shelved_there, some_stable, stable_is}

module _ {S : Type 0} (r : Recovering S)
    (x : CompactUnit S) (k : IsKept r) (s : IsSeen r x) (target : ℕ) (t : IsTarget r target) where
  -- ---- where it begins

  nearest_there : (y : Shelf (Progress S)) × (nearest_of r.shelf target ≡ Some y)
  nearest_there = go (nearest_of r.shelf target) refl
    where
      go : (o : Option (Shelf (Progress S)))
          → nearest_of r.shelf target ≡ o → (y : Shelf (Progress S)) × (nearest_of r.shelf target ≡ Some y)
      go (Some y) e = (y, e)
      go None e = absurd (
          let h : target < x.base.index = nearest_none r.shelf k.rises target e (shelved_as x.base) (inl s.base) in
          let b = base_is r x k s in
          let d : r.base ≤ target = t.base in
          omega (arith, h, b, d))

  begins : (b : Snapshot S) × ((b ≡ x.base) ⊎ ((i : ℕ) × (slice_get x.shelf i ≡ Some b)))
      × (nearest_of r.shelf target ≡ Some (shelved_as b)) × (b.index ≤ target)
  begins =
      let y = nearest_there in
      let n = nearest_some r.shelf k.rises target y.0 y.1 in
      let w = shelved_there r x k s y.0 n.there in
      let same : y.0.index ≡ w.0.index = ap (λ (z : Shelf (Progress S)). z.index) w.2 in
      let h = n.not_above in
      (w.0, w.1, y.1 ∙ ap (λ z. Some z) w.2, omega (arith, same, h))

  module _ (n : ℕ) (last : target + 1 ≡ n) where
    -- ---- what is cut

    place : n - x.base.index ≡ target + 1 - r.base
    place = λ i. sym last i - base_is r x k s i

    cut_outside : x.outside - from_outside
        (drop (n - x.base.index) x.intervals) ≡ r.outside - from_outside (drop (target + 1 - r.base) r.intervals)
    cut_outside = λ i. s.outside i - from_outside (drop (place i) (s.intervals i))

    cut_intervals : take (n - x.base.index) x.intervals ≡ take (target + 1 - r.base) r.intervals
    cut_intervals = λ i. take (place i) (s.intervals i)

    cut_volatile : records_below x.volatile n ≡ records_below r.volatile (target + 1)
    cut_volatile = λ i. records_below (s.volatile i) (sym last i)

    cut_shelf : take_while (λ (y : Shelf (Progress S)). nat_lt y.index (target + 1)) r.shelf.others ≡ map shelved_as
        (take_while (λ (b : Snapshot S). nat_lt b.index n) x.shelf)
    cut_shelf =
        (λ i. take_while (λ (y : Shelf (Progress S)). nat_lt y.index (last i)) (s.shelf i))
        ∙ same_front (λ (b : Snapshot S). nat_lt b.index n)
        (λ (y : Shelf (Progress S)). nat_lt y.index n) shelved_as x.shelf (λ i b e. refl)

    volatile_is : records_below r.volatile (target + 1) ≡ take (target + 1 - x.stable) r.volatile
    volatile_is = below_is r.volatile ((r.base + length r.intervals) - length r.volatile) (target + 1) k.marks
        ∙ ap (λ st. take (target + 1 - st) r.volatile) (sym (stable_is r x k s))

    cut_stable : min x.stable n
        ≡ (r.base + length (take (target + 1 - r.base) r.intervals)) - length (records_below r.volatile (target + 1))
    cut_stable =
        let a = length-take (target + 1 - r.base) r.intervals in
        let b = ap length volatile_is ∙ length-take (target + 1 - x.stable) r.volatile in
        let d = stable_is r x k s in
        let e = some_stable r x k s in
        let f : r.base ≤ target = t.base in
        let g : target < r.base + length r.intervals = t.path in
        counted (length (take (target + 1 - r.base) r.intervals))
        (length (records_below r.volatile (target + 1))) a b d e f g
      where
        counted : (l v : ℕ) → l ≡ min (target + 1 - r.base) (length r.intervals)
            → v ≡ min (target + 1 - x.stable) (length r.volatile)
            → x.stable ≡ (r.base + length r.intervals) - length r.volatile
            → length r.volatile < length r.intervals
            → r.base ≤ target → target < r.base + length r.intervals → min x.stable n ≡ (r.base + l) - v
        counted l v a b d e f g = omega (arith, a, b, d, e, f, g, last)

    -- ---- the records

    module _ (b : Snapshot S) (there : (b ≡ x.base) ⊎ ((i : ℕ) × (slice_get x.shelf i ≡ Some b)))
        (log fetched : List Record) (long : length x.live ≡ x.stable - 1 - x.base.index)
        (read : map (λ q. Some q) fetched
        ≡ take (min n x.stable - 1 - b.index) (drop (b.index - x.base.index) (map (slice_get log) x.live))) where
      abbrev logged : List (Option Record)
      logged = drop (b.index - x.base.index) (map (slice_get log) x.live)

      live_long : length (map (slice_get log) x.live) ≡ x.stable - 1 - x.base.index
      live_long = length-map x.live (slice_get log) ∙ long

      logged_long : length logged ≡ x.stable - 1 - b.index
      logged_long =
          let a = length-drop (b.index - x.base.index) (map (slice_get log) x.live) in
          let d = live_long in
          let e = low r x k s b there in
          let f = high r x k s b there in
          omega (arith, a, d, e, f)

      -- what is read is all that is logged of it
      front_is : take (min n x.stable - 1 - b.index) logged ≡ take (n - 1 - b.index) logged
      front_is = elim (dec_le n x.stable) [
        | yes h ↦ let e : min n x.stable ≡ n = omega (arith, h) in ap (λ m. take (m - 1 - b.index) logged) e
        | no h ↦ let l = logged_long in take_all (min n x.stable - 1 - b.index) logged (omega (arith, l, h))
            ∙ sym (take_all (n - 1 - b.index) logged (omega (arith, l, h)))
      ]

      -- and the others are volatile
      back_is : map (λ q. Some q) (records_below r.volatile (target + 1))
          ≡ take (n - 1 - b.index - length logged) (map (λ q. Some q) x.volatile)
      back_is =
          let l = logged_long in
          let e = low r x k s b there in
          let count : target + 1 - x.stable ≡ n - 1 - b.index - length logged = omega (arith, l, e, last) in
          ap (map (λ q. Some q)) (volatile_is ∙ (λ i. take (count i) (sym s.volatile i)))
          ∙ sym (take-map (λ q. Some q) (n - 1 - b.index - length logged) x.volatile)

      records_are : map (λ q. Some q) (records_to r target fetched) ≡ take
          (n - 1 - b.index) (drop (b.index - x.base.index) (map (slice_get log) x.live ++ map (λ q. Some q) x.volatile))
      records_are =
          let d = live_long in
          let e = low r x k s b there in
          let f = high r x k s b there in
          map-append (λ q. Some q) fetched (records_below r.volatile (target + 1))
          ∙ (λ i. (read ∙ front_is) i ++ back_is i)
          ∙ sym (take_append (n - 1 - b.index) logged (map (λ q. Some q) x.volatile))
          ∙ ap (take (n - 1 - b.index)) (sym (drop-append-le (b.index - x.base.index)
          (map (slice_get log) x.live) (map (λ q. Some q) x.volatile) (omega (arith, d, e, f))))

module _ {S : Type 0} (M : Meaning S) (r : Recovering S) (x : CompactUnit S) (k : IsKept r)
    (s : IsSeen r x) (c : Compact S) (target : ℕ) (t : IsTarget r target) (last : target + 1 ≡ kept_places c x)
    (b : Snapshot S) (begin : BeginsAt r c x target b) (log fetched : List Record)
    (long : length x.live ≡ x.stable - 1 - x.base.index) (read : IsRead c x log b fetched) where
  abbrev after : Recovering S
  after = restored M r target (length c.units) fetched

  abbrev progress : Progress S
  progress = replayed M r.seat (fitted (length c.units) b.progress) (records_to r target fetched)

  progress_is : after.progress ≡ Some progress
  progress_is = ap (option_map (λ (y : Shelf (Progress S)).
      replayed M r.seat (fitted (length c.units) y.state) (records_to r target fetched))) begin.nearest

  fetched_are : IsFetched c x log b (records_to r target fetched)
  fetched_are = record {
    there = begin.there;
    within = begin.within;
    are = records_are r x k s target t (kept_places c x) last b begin.there log fetched long read;
  }

  rebuilt_is : IsRebuilt M c x log progress
  rebuilt_is = (
    b,
    (
      records_to r target fetched,
      fetched_are,
      ap (λ seat. replayed M seat (fitted (length c.units) b.progress) (records_to r target fetched)) (sym s.seat),
    ),
  )

  back_seen : IsSeen after (back_unit c x progress)
  back_seen = record {
    seat = s.seat;
    up = sym (ap is_some progress_is);
    now = λ p e. same_Some progress p (sym progress_is ∙ e);
    stable = cut_stable r x k s target t (kept_places c x) last;
    outside = cut_outside r x k s target t (kept_places c x) last;
    base = s.base;
    shelf = cut_shelf r x k s target t (kept_places c x) last;
    intervals = cut_intervals r x k s target t (kept_places c x) last;
    volatile = cut_volatile r x k s target t (kept_places c x) last;
  }

  restored_is : IsRestored M r c x log target fetched
  restored_is = record { progress = progress; there = progress_is; rebuilt = rebuilt_is; seen = back_seen }

module _ {S : Type 0} (M : Meaning S) where
  -- A recovery unit that is restored by replay keeps the compact unit that has gone back.
  pub restores_are_seen : RestoresAreSeen M
  restores_are_seen r x k s c target t last =
      let g = begins r x k s target t in
      let h = g.3 in
      let begin : BeginsAt r c x target g.0 =
      record { there = g.1; nearest = g.2; within = subst (λ n. g.0.index < n) last (omega (arith, h)) } in
      (g.0, begin, λ log fetched long read. restored_is M r x k s c target t last g.0 begin log fetched long read)

-- What holds of a unit of a tenant whose compact state stands for a world.
use Rattle.std.proofs.Common.{◌≡◌, sym, ◌∙◌, ap, ℕ, suc, ◌+◌, ◌-◌, ◌<◌, ◌≤◌, false, List, length, drop, arith}
use Rattle.std.proofs.Common.{length-drop, length-take}
use Rattle.std.specs.Prelude.{Some, slice_get}
use Rattle.std.proofs.lemmas.List.{length-map}
use Rattle.std.proofs.lemmas.Option.{slice_get_within}
use Rattle.std.proofs.Math.Seq.{take-length}
use Rattle.model.specs.declared.records.Record.{Record}
use Rattle.model.specs.Handler.{Meaning}
use Rattle.model.specs.World.{World, Member, is_firm, is_orphan, stable_path}
use Rattle.model.specs.Records.{record_of, vector_of}
use Rattle.model.specs.Alone.{Reachable}
use Rattle.model.proofs.Places.{get_below}
use Rattle.theory.proofs.Certificate.{Invariant, reachable_invariant}
use Rattle.theory.proofs.ListLaws.{get_drop, map_at, take_get, take_while_le}
use Rattle.theory.proofs.VectorLaw.{vectors_tell}
use Rattle.orphan.specs.Tests.{is_orphan_by}
use Rattle.layer_laws.specs.Laws.{frontier}
use Rattle.compact.specs.Compact.{Compact, Interval, IsUnit, Represents, CompactUnit, interval_of}
use Rattle.compact.specs.Steps.{kept_places, places as all_of}
use Rattle.compact.specs.StepLaws.{StandsCompact}
use Rattle.compact.proofs.Tails.{before_frontier, firm_no_orphan, orphans_are_tails}
use Rattle.compact.proofs.Tests.{places_are}
use Rattle.compact.proofs.Recovery.{base_serves, kept_high}
use Rattle.rollback.specs.Units.{Recovering, IsKept, IsTarget, OrphansAreTail}
use Rattle.rollback_laws.specs.Seen.{IsReady, IsSeen}
use Rattle.rollback_laws.specs.Laws.{UnitsAreReady}
use Rattle.rollback_laws.proofs.Places.{base_is, places_are as places_seen}

module _ {S : Type 0} (M : Meaning S) (name : List ℕ) (k : Compact S)
    (w : World) (log : List Record) (stands : StandsCompact M name k w log) (u : ℕ) (m : Member) (x : CompactUnit S)
    (found : slice_get w.members u ≡ Some m)
    (at : slice_get k.units u ≡ Some x) (r : Recovering S) (kept : IsKept r) (s : IsSeen r x) where
  reached : Reachable M w
  reached = stands.reached

  is : Represents M name k w log
  is = stands.represents

  g : Invariant M w
  g = reachable_invariant M reached

  here : IsUnit M name w log m x
  here = is.units u m x found at

  -- an interval is of the path
  on_path : (i : ℕ) (v : Interval) → slice_get r.intervals i ≡ Some v
      → (y : ℕ) × (slice_get m.path (x.base.index + i) ≡ Some y) × (v ≡ interval_of w.nodes y)
  on_path i v e =
      let f = map_at (interval_of w.nodes)
      (drop x.base.index m.path) i v (ap (λ vs. slice_get vs i) (sym here.intervals ∙ s.intervals) ∙ e) in
      (f.0, get_drop m.path x.base.index i f.0 f.1, f.2)

  -- and its vector tells whether it is an orphan
  told : (i y : ℕ) → slice_get m.path i ≡ Some y
      → is_orphan w.nodes w.table y ≡ is_orphan_by w.table (vector_of w.nodes y)
  told i y e =
      ap (λ t. is_orphan w.nodes t y) (sym (take-length w.table))
      ∙ (vectors_tell M w reached (length w.table) y ((g.chain.sound.units u m found).made i y e)).1
      ∙ ap (λ t. is_orphan_by t (vector_of w.nodes y)) (take-length w.table)

  by_vector : (i y : ℕ) (v : Interval) → slice_get m.path i ≡ Some y
      → v ≡ interval_of w.nodes y → is_orphan_by k.table v.vector ≡ is_orphan w.nodes w.table y
  by_vector i y v e f = (λ j. is_orphan_by (is.table j) (f j).vector) ∙ sym (told i y e)

  clean : (i : ℕ) (v : Interval)
      → i < x.frontier - x.base.index → slice_get r.intervals i ≡ Some v → is_orphan_by k.table v.vector ≡ false
  clean i v h e =
      let f = on_path i v e in
      let b = before_frontier w m (x.base.index + i)
      f.0 (take_get m.path (frontier w m) (x.base.index + i) f.0 (let p = here.front in omega (arith, h, p)) f.1) in
      by_vector (x.base.index + i) f.0 v f.1 f.2
      ∙ firm_no_orphan w g.chain.sound u (x.base.index + i) f.0 m found f.1 b.1

  tail : OrphansAreTail k.table r.intervals
  tail i j v z le ev ez e =
      let a = on_path i v ev in
      let b = on_path j z ez in
      by_vector (x.base.index + j) b.0 z b.1 b.2
      ∙ orphans_are_tails M w reached u m found (x.base.index + i)
      (x.base.index + j) a.0 b.0 (omega (arith, le)) a.1 b.1 (sym (by_vector (x.base.index + i) a.0 v a.1 a.2) ∙ e)

  live : length x.live ≡ x.stable - 1 - x.base.index
  live =
      let a = length-map x.live (slice_get log) in
      let b = ap length here.live in
      let c = length-map (drop (suc x.base.index) (stable_path m)) (λ y. Some (record_of M name w y)) in
      let d = length-drop (suc x.base.index) (stable_path m) in
      let e = length-take m.stable m.path in
      let f = (g.chain.sound.units u m found).logged in
      let h = here.stable in
      omega (arith, a, b, c, d, e, f, h)

  front : x.frontier ≤ all_of x
  front =
      let a = here.front in
      let b = take_while_le (is_firm w) m.path in
      let c = places_are M name w log m x here in
      low x.frontier (frontier w m) (length m.path) (all_of x) a b c
    where
      low : (f n l p : ℕ) → f ≡ n → n ≤ l → p ≡ l → f ≤ p
      low f n l p a b c = omega (arith, a, b, c)

  target_of : (n : ℕ) → x.base.index < n → n ≤ length m.path → IsTarget r (n - 1) × (n - 1 + 1 ≡ n)
  target_of n a b =
      let c = base_is r x kept s in
      let d : x.base.index + length x.intervals ≡ length m.path = places_are M name w log m x here in
      let e : x.base.index + length x.intervals ≡ r.base + length r.intervals = places_seen r x kept s in
      (record { base = omega (arith, a, c); path = omega (arith, a, b, d, e) }, omega (arith, a))

  target : IsTarget r (kept_places k x - 1) × (kept_places k x - 1 + 1 ≡ kept_places k x)
  target = target_of (kept_places k x)
      (base_serves M name k w log reached is u m x found at) (kept_high M name k w log reached is u m x found at)

  ready : IsReady r k x
  ready = record {
    firm_base = let a = here.firm_base in let b = here.front in omega (arith, a, b);
    front = front;
    clean = clean;
    tail = tail;
    live = live;
    target = target.0;
    last = target.1;
  }

module _ {S : Type 0} (M : Meaning S) where
  -- Where a compact state stands for a world, its units meet what going back asks for.
  pub units_are_ready : UnitsAreReady M
  units_are_ready name k w log stands u x at r kept s =
      let width = stands.represents.width in
      let m = get_below w.members u (let a = slice_get_within k.units u x at in omega (arith, a, width)) in
      ready M name k w log stands u m.0 x m.1 at r kept s

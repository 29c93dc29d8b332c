-- What a unit keeps is still kept after each call.
use Rattle.std.proofs.Common.{◌≡◌, inl, inr, suc, refl, ◌∙◌, ap, subst, ℕ, ◌+◌, ◌-◌, ◌<◌, ◌≤◌, ◌^◌, List, [], ◌∷◌, ◌++◌}
use Rattle.std.proofs.Common.{length, take, drop, arith, length-append}
use Rattle.std.specs.Prelude.{Option, None}
use Rattle.std.proofs.lemmas.List.{length-take-le, length-drop}
use Rattle.std.specs.Prelude.{Bool, true, false, cond, Some, slice_get, nat_lt, option_map}
use Rattle.std.specs.List.{remove}
use Rattle.std.proofs.lemmas.Option.{slice_get_within}
use Rattle.theory.proofs.ListLaws.{get_append, get_drop}
use Rattle.checkpoint.specs.declared.snapshot.Snapshot.{Snapshot}
use Rattle.checkpoint.specs.Shelves.{Shelved, IsTop, Rises, has_index, put_on, making_room}
use Rattle.checkpoint.proofs.Rising.{rises_put, remove_first}
use Rattle.model.specs.declared.records.Record.{Record}
use Rattle.compact.specs.Compact.{Interval, Progress}
use Rattle.compact.specs.Steps.{from_outside}
use Rattle.rollback.specs.Units.{Recovering, IsKept, IsOutside, Marked, places, shelf_with}
use Rattle.rollback.proofs.Outside.{one_if, outside_shorter, outside_taken}

none_marked : (v : List Record) (i n : ℕ) (r : Record) → v ≡ [] → slice_get v i ≡ Some r → r.mark.index ≡ n + i
none_marked [] i n r e f = cc
none_marked (x ∷ v) i n r e f = cc

-- another progress, path and volatile log, where no fewer places are stable
kept_where : {S : Type 0} (u : Recovering S)
    (progress : Option (Progress S)) (outside : ℕ) (intervals : List Interval) (volatile : List Record) → IsKept u
    → length volatile < length intervals
    → u.base + length intervals ≤ 2 ^ 32 → length u.intervals + length volatile ≤ length intervals + length u.volatile
    → Marked ((u.base + length intervals) - length volatile) volatile → IsOutside u.base outside intervals
    → IsKept (record u { progress = progress; outside = outside; intervals = intervals; volatile = volatile })
kept_where u progress outside intervals volatile k some few more marks counted = record {
  base = k.base;
  stable = some;
  few = few;
  rises = k.rises;
  marks = marks;
  outside = counted;
  top = λ x there. let h : x.index ≤ (u.base + length u.intervals) - length u.volatile - 1 = k.top x there in
      let s = k.stable in goes x.index h s;
}
  where
    goes : (i : ℕ) → i ≤ (u.base + length u.intervals) - length u.volatile - 1
        → length u.volatile < length u.intervals → i ≤ (u.base + length intervals) - length volatile - 1
    goes i h s = omega (arith, h, s, some, more)

-- a shorter path that is all stable
pub kept_killed : {S : Type 0} (u : Recovering S) (outside : ℕ) (intervals : List Interval) (volatile : List Record)
    (n : ℕ) → IsKept u → intervals ≡ take n u.intervals → n + length u.volatile ≡ length u.intervals → volatile ≡ []
    → outside ≡ u.outside - from_outside (drop n u.intervals)
    → IsKept (record u { progress = None; outside = outside; intervals = intervals; volatile = volatile })
kept_killed u outside intervals volatile n k is long none left =
    let a : length intervals ≡ n = ap length is ∙ length-take-le n u.intervals (omega (arith, long)) in
    let b : length volatile ≡ 0 = ap length none in
    let s = k.stable in
    let f : u.base + length u.intervals ≤ 2 ^ 32 = k.few in
    kept_where u None outside intervals
    volatile k (omega (arith, a, b, s, long)) (omega (arith, a, f, long)) (omega (arith, a, b, long))
    (λ i r e. none_marked volatile i ((u.base + length intervals) - length volatile) r none e)
    (rw (is, left) (outside_shorter u.base u.outside u.intervals n k.outside (omega (arith, s, long))))

-- fewer volatile records
pub kept_marked : {S : Type 0} (u : Recovering S) (volatile : List Record) (n : ℕ)
    → IsKept u → volatile ≡ drop n u.volatile
    → IsKept (record u { volatile = volatile })
kept_marked u volatile n k is =
    let a : length volatile ≡ length u.volatile - n = ap length is ∙ length-drop n u.volatile in
    let s = k.stable in
    kept_where u u.progress u.outside u.intervals volatile k (omega (arith, a, s)) k.few (omega (arith, a))
    (λ i r e. let there : slice_get u.volatile (n + i) ≡ Some r =
    get_drop u.volatile n i r (subst (λ (v : List Record). slice_get v i ≡ Some r) is e) in
    let within = slice_get_within u.volatile (n + i) r there in
    let h : r.mark.index ≡ ((u.base + length u.intervals) - length u.volatile) + (n + i) =
    k.marks (n + i) r there in omega (arith, a, s, h, within)) k.outside

-- one more interval with its record
pub kept_took : {S : Type 0} (u : Recovering S) (progress : Option (Progress S))
    (outside : ℕ) (intervals : List Interval) (volatile : List Record) (i : Interval) (r : Record)
    → IsKept u → places u < 2 ^ 32 → r.mark.index ≡ places u
    → intervals ≡ u.intervals ++ i ∷ [] → volatile ≡ u.volatile ++ r ∷ [] → outside ≡ u.outside + one_if i
    → IsKept (record u { progress = progress; outside = outside; intervals = intervals; volatile = volatile })
kept_took u progress outside intervals volatile i r k room mark is was more =
    let a : length intervals ≡ length u.intervals + 1 = ap length is ∙ length-append u.intervals (i ∷ []) in
    let b : length volatile ≡ length u.volatile + 1 = ap length was ∙ length-append u.volatile (r ∷ []) in
    let s = k.stable in
    let f : u.base + length u.intervals < 2 ^ 32 = room in
    let m : r.mark.index ≡ u.base + length u.intervals = mark in
    kept_where u progress outside
    intervals volatile k (omega (arith, a, b, s)) (omega (arith, a, f)) (omega (arith, a, b))
    (λ j x e. elim (get_append u.volatile r x j (subst (λ (v : List Record). slice_get v j ≡ Some x) was e)) [
      | inl q ↦ let h : x.mark.index ≡ ((u.base + length u.intervals) - length u.volatile) + j = k.marks j x q in
          omega (arith, a, b, s, h)
      | inr q ↦ let same : x.mark.index ≡ r.mark.index = ap (λ (y : Record). y.mark.index) q.1 in
          let at = q.0 in omega (arith, a, b, s, m, same, at)
    ])
    (rw (is, more) (outside_taken u.base u.outside u.intervals i k.outside (omega (arith, s))))

-- ---- one more snapshot

room_there : {P : Type 0} (others : List (Snapshot P)) (i : ℕ) (x : Snapshot P)
    → slice_get (making_room others) i ≡ Some x → (j : ℕ) × (slice_get others j ≡ Some x)
room_there {P} others i x e = go (nat_lt (length others) 64) e
  where
    go : (b : Bool) → slice_get (cond b others (remove others 0)) i ≡ Some x → (j : ℕ) × (slice_get others j ≡ Some x)
    go true f = (i, f)
    go false f = (suc i, remove_first others i x f)

-- what is put at the top is the top
put_top : {P : Type 0} (s : Shelved P) (x : Snapshot P) → IsTop s x.index → IsTop (put_on s x) x.index
put_top {P} s x top = go (has_index s x.index)
  where
    go : (b : Bool) → IsTop (cond b s (record s { others = making_room s.others ++ x ∷ [] })) x.index
    go true y there = top y there
    go false y (inl e) = top y (inl e)
    go false y (inr t) = elim (get_append (making_room s.others) x y t.0 t.1) [
      | inl h ↦ top y (inr (room_there s.others t.0 y h))
      | inr h ↦ let k = h.1 in rw k (omega arith)
    ]

put_base : {P : Type 0} (s : Shelved P) (x : Snapshot P) → (put_on s x).base ≡ s.base
put_base {P} s x = go (has_index s x.index)
  where
    go : (b : Bool) → (cond b s (record s { others = making_room s.others ++ x ∷ [] })).base ≡ s.base
    go true = refl
    go false = refl

-- Indices still rise where a snapshot is put on a shelf that has none above it.
pub put_rises : {P : Type 0} (s : Shelved P) (x : Snapshot P)
    → IsTop s x.index → Rises s.base s.others → Rises (put_on s x).base (put_on s x).others
put_rises {P} s x top r = go (has_index s x.index) refl
  where
    go : (b : Bool) → has_index s x.index ≡ b
        → Rises (cond b s (record s { others = making_room s.others ++ x ∷ [] })).base
        (cond b s (record s { others = making_room s.others ++ x ∷ [] })).others
    go true e = r
    go false e = rises_put s.base s.others (making_room s.others ++ x ∷ []) x refl e top r

-- no snapshot is above the last interval, where all are stable
pub last_top : {S : Type 0} (u : Recovering S) (index : ℕ)
    → IsKept u → length u.volatile ≡ 0 → index ≡ (u.base + length u.intervals) - 1 → IsTop u.shelf index
last_top {S} u index k none at = λ x there. last x.index (k.top x there)
  where
    last : (i : ℕ) → i ≤ (u.base + length u.intervals) - length u.volatile - 1 → i ≤ index
    last i h = omega (arith, h, none, at)

-- a shelf on which the last interval was put
pub kept_shelved : {S : Type 0} (u : Recovering S) (shelf : Shelved (Progress S)) (index : ℕ)
    (progress : Option (Progress S)) → IsKept u → length u.volatile ≡ 0 → index ≡ (u.base + length u.intervals) - 1
    → shelf ≡ shelf_with u.shelf index progress → IsKept (record u { shelf = shelf })
kept_shelved {S} u shelf index progress k none at is = rw is (go progress)
  where
    top : IsTop u.shelf index
    top = last_top u index k none at

    back : (i : ℕ) → i ≤ index → i ≤ (u.base + length u.intervals) - length u.volatile - 1
    back i h = omega (arith, h, none, at)

    go : (progress : Option (Progress S)) → IsKept (record u { shelf = shelf_with u.shelf index progress })
    go None = k
    go (Some p) = let x : Snapshot (Progress S) = record { index = index; state = p } in record {
      base = ap (λ b. option_map (λ (s : Snapshot (Progress S)). s.index) b) (put_base u.shelf x) ∙ k.base;
      stable = k.stable;
      few = k.few;
      top = λ y there. back y.index (put_top u.shelf x top y there);
      rises = put_rises u.shelf x top k.rises;
      marks = k.marks;
      outside = k.outside;
    }

-- What a unit keeps when its path is cut.
use Rattle.std.proofs.Common.{◌≡◌, inl, inr, refl, sym, ◌∙◌, ap, subst, ℕ, zero, suc, ◌+◌, ◌-◌, ◌<◌, ◌≤◌, ◌^◌, Bool}
use Rattle.std.proofs.Common.{true, false, List, [], ◌∷◌, length, take, drop, arith}
use Rattle.std.specs.Prelude.{Option, Some, None, slice_get, nat_lt, option_map}
use Rattle.std.specs.List.{take_while, prefix_len}
use Rattle.std.proofs.lemmas.Option.{same_Some, slice_get_within}
use Rattle.std.proofs.lemmas.List.{length-take-le, take_all, drop_all}
use Rattle.std.proofs.lemmas.List.Sums.{take_while-cons}
use Rattle.theory.proofs.ListLaws.{bool_cases, get_take, lt_true, true_lt, take_while_passes}
use Rattle.model.specs.declared.records.Record.{Record}
use Rattle.checkpoint.specs.declared.snapshot.Snapshot.{Snapshot}
use Rattle.checkpoint.specs.Shelves.{Shelved, IsShelved, cut_at}
use Rattle.checkpoint.proofs.Rising.{rises_take}
use Rattle.volatile_log.specs.Logs.{records_below}
use Rattle.compact.specs.Compact.{Interval, Progress}
use Rattle.compact.specs.Steps.{from_outside}
use Rattle.rollback.specs.Units.{Recovering, IsKept, IsTarget, Marked, cut_behind, places}
use Rattle.rollback.proofs.Outside.{outside_shorter}

take_none : (n : ℕ) → take {A = Record} n [] ≡ []
take_none zero = refl
take_none (suc n) = refl

-- One and a number make the number's successor.
pub one : (n : ℕ) → 1 + n ≡ suc n
one n = omega arith

not_below : (m n from : ℕ) → nat_lt m n ≡ false → m ≡ from + 0 → n - from ≡ 0
not_below m n from e at = grind (arith, e, at)

-- of records in order those below an index are the first so many
pub below_is : (v : List Record) (from n : ℕ) → Marked from v → records_below v n ≡ take (n - from) v
below_is [] from n marked = sym (take_none (n - from))
below_is (r ∷ v) from n marked = elim (bool_cases (nat_lt r.mark.index n)) [
  | inl e ↦ let less : r.mark.index < n = lt_true r.mark.index n e in
      let at : r.mark.index ≡ from + 0 = marked 0 r refl in
      let rest : records_below v n ≡ take (n - suc from) v =
      below_is v (suc from) n (λ i x f. let h = marked (suc i) x f in omega (arith, h)) in
      let count : n - from ≡ suc (n - suc from) = omega (arith, less, at) in
      rw (e, count) (ap (λ k. take k (r ∷ v)) (one (prefix_len (λ x. nat_lt x.mark.index n) v))
      ∙ ap (λ xs. r ∷ xs) rest)
  | inr e ↦ let at : r.mark.index ≡ from + 0 = marked 0 r refl in
      let none : n - from ≡ 0 = not_below r.mark.index n from e at in
      rw (e, none) refl
]

-- the base is at its index
base_at : {P : Type 0} (base : Option (Snapshot P)) (x : Snapshot P) (n : ℕ)
    → base ≡ Some x → option_map (λ (s : Snapshot P). s.index) base ≡ Some n → x.index ≡ n
base_at None x n e f = cc
base_at (Some y) x n e f = ap (λ (s : Snapshot _). s.index) (sym (same_Some y x e)) ∙ same_Some y.index n f

-- with its path cut behind the target
pub kept_cut : {S : Type 0} (u : Recovering S) (target outside : ℕ)
    (intervals : List Interval) (volatile : List Record) (shelf : Shelved (Progress S)) → IsKept u → IsTarget u target
    → outside ≡ u.outside - from_outside (drop (target + 1 - u.base) u.intervals)
    → intervals ≡ take (target + 1 - u.base) u.intervals
    → volatile ≡ records_below u.volatile (target + 1) → shelf ≡ cut_at u.shelf (target + 1)
    → IsKept (record u { outside = outside; shelf = shelf; intervals = intervals; volatile = volatile })
kept_cut {S} u target outside intervals volatile shelf k t d e f g = rw g (record {
  base = k.base;
  stable = omega (arith, a, b, s, past);
  few = omega (arith, a, few, within);
  top = top;
  rises = rises_take u.shelf.base u.shelf.others _ k.rises;
  marks = marks;
  outside =
      rw (d, e) (outside_shorter u.base u.outside u.intervals (target + 1 - u.base) k.outside (omega (arith, past)));
})
  where
    n : ℕ
    n = target + 1

    s : length u.volatile < length u.intervals
    s = k.stable

    few : u.base + length u.intervals ≤ 2 ^ 32
    few = k.few

    past : u.base < n
    past = let h = t.base in omega (arith, h)

    within : n ≤ u.base + length u.intervals
    within = let h : target < u.base + length u.intervals = t.path in omega (arith, h)

    st : ℕ
    st = (u.base + length u.intervals) - length u.volatile

    is : volatile ≡ take (n - st) u.volatile
    is = f ∙ below_is u.volatile st n k.marks

    a : length intervals ≡ n - u.base
    a = ap length e ∙ length-take-le (n - u.base) u.intervals (omega (arith, within))

    b : length volatile ≡ n - ((u.base + length u.intervals) - length u.volatile)
    b = ap length is ∙ length-take-le (n - st) u.volatile (less n within s)
      where
        less : (n : ℕ) → n ≤ u.base + length u.intervals → length u.volatile < length u.intervals
            → n - ((u.base + length u.intervals) - length u.volatile) ≤ length u.volatile
        less n h l = omega (arith, h, l)

    goes : (i : ℕ) → i < n → i ≤ (u.base + length u.intervals) - length u.volatile - 1
        → i ≤ (u.base + length intervals) - length volatile - 1
    goes i h t = omega (arith, h, t, a, b, s, past, within)

    top : (x : Snapshot (Progress S))
        → IsShelved (cut_at u.shelf n) x → x.index ≤ (u.base + length intervals) - length volatile - 1
    top x (inl h) =
        goes x.index (let at = base_at u.shelf.base x u.base h k.base in omega (arith, at, past)) (k.top x (inl h))
    top x (inr t) =
        goes x.index (lt_true x.index n (take_while_passes (λ y. nat_lt y.index n) u.shelf.others t.0 x t.1))
        (k.top x (inr (t.0, (get_take u.shelf.others _ t.0 x t.1).0)))

    marks : Marked ((u.base + length intervals) - length volatile) volatile
    marks i r there = let t = get_take u.volatile (n - st) i r
        (subst (λ (v : List Record). slice_get v i ≡ Some r) is there) in at i r.mark.index t.1 (k.marks i r t.0)
      where
        at : (i m : ℕ) → i < n - ((u.base + length u.intervals) - length u.volatile)
            → m ≡ ((u.base + length u.intervals) - length u.volatile) + i
            → m ≡ ((u.base + length intervals) - length volatile) + i
        at i m h is = omega (arith, h, is, a, b, s, past, within)

-- ---- a target that is the last

-- what all pass is all
pub all_pass : {X : Type 0} (p : X → Bool) (xs : List X)
    → ((i : ℕ) (x : X) → slice_get xs i ≡ Some x → p x ≡ true) → take_while p xs ≡ xs
all_pass p [] h = refl
all_pass p (x ∷ xs) h =
    rw (take_while-cons p x xs, h 0 x refl) (ap (λ ys. x ∷ ys) (all_pass p xs (λ i y e. h (suc i) y e)))

-- then nothing is cut
pub cut_nothing : {S : Type 0} (u : Recovering S) (target : ℕ)
    → IsKept u → target + 1 ≡ places u → u ≡ cut_behind u target
cut_nothing {S} u target k last = λ j. record {
  seat = u.seat;
  progress = u.progress;
  base = u.base;
  outside = outside j;
  shelf = shelf j;
  intervals = intervals j;
  volatile = volatile j;
}
  where
    long : length u.intervals ≤ target + 1 - u.base
    long = let h : target + 1 ≡ u.base + length u.intervals = last in omega (arith, h)

    intervals : u.intervals ≡ take (target + 1 - u.base) u.intervals
    intervals = sym (take_all (target + 1 - u.base) u.intervals long)

    outside : u.outside ≡ u.outside - from_outside (drop (target + 1 - u.base) u.intervals)
    outside = rw (drop_all (target + 1 - u.base) u.intervals long)
        (let z : u.outside ≡ u.outside - 0 = omega arith in z)

    low : (i : ℕ) → i ≤ (u.base + length u.intervals) - length u.volatile - 1 → i < target + 1
    low i h = let s = k.stable in let t : target + 1 ≡ u.base + length u.intervals = last in omega (arith, h, s, t)

    others : u.shelf.others ≡ take_while (λ x. nat_lt x.index (target + 1)) u.shelf.others
    others = sym (all_pass (λ x. nat_lt x.index (target + 1))
        u.shelf.others (λ i x e. true_lt x.index (target + 1) (low x.index (k.top x (inr (i, e))))))

    shelf : u.shelf ≡ cut_at u.shelf (target + 1)
    shelf = λ j. record { base = u.shelf.base; others = others j }

    here : (i m : ℕ) → i < length u.volatile
        → m ≡ ((u.base + length u.intervals) - length u.volatile) + i → m < target + 1
    here i m h is = let s = k.stable in
        let t : target + 1 ≡ u.base + length u.intervals = last in omega (arith, h, is, s, t)

    volatile : u.volatile ≡ records_below u.volatile (target + 1)
    volatile = sym (all_pass (λ r. nat_lt r.mark.index (target + 1)) u.volatile (λ i r e. true_lt
        r.mark.index (target + 1) (here i r.mark.index (slice_get_within u.volatile i r e) (k.marks i r e))))

-- What a unit keeps when its base moves.
use Rattle.std.proofs.Common.{◌≡◌, ◌≢◌, inl, inr, refl, sym, ◌∙◌, ap, ℕ, ◌+◌, ◌-◌, ◌<◌, ◌≤◌, ◌^◌, Bool, true, false}
use Rattle.std.proofs.Common.{cond, ◌||◌, List, [], ◌∷◌, length, drop, arith}
use Rattle.std.specs.Prelude.{Option, Some, None, slice_get, option_map, ◌==◌, not}
use Rattle.std.specs.List.{list_any, position_or_len, prefix_len}
use Rattle.std.specs.Option.{option_map_or}
use Rattle.std.proofs.lemmas.Option.{same_Some}
use Rattle.std.proofs.lemmas.List.{length-drop}
use Rattle.theory.proofs.ListLaws.{bool_cases, eq_true, true_eq, get_drop}
use Rattle.checkpoint.specs.declared.snapshot.Snapshot.{Snapshot}
use Rattle.checkpoint.specs.Shelves.{Shelved, Rises, IsShelved, based_at, has_index, is_at}
use Rattle.checkpoint.proofs.Rising.{rises_based}
use Rattle.compact.specs.Compact.{Interval, Progress}
use Rattle.rollback.specs.Units.{Recovering, IsKept}
use Rattle.rollback.proofs.Cuts.{one}
use Rattle.rollback.proofs.Outside.{outside_based}

-- Numbers that differ fail the test for equality.
pub unequal : (a b : ℕ) → a ≢ b → (a == b) ≡ false
unequal a b h = elim (bool_cases (a == b)) [ inl e ↦ absurd (h (eq_true a b e)) | inr e ↦ e ]

-- a snapshot that is shelved, but is not the base, is among the others
pub others_have : {P : Type 0} (s : Shelved P) (m n : ℕ) → option_map (λ (x : Snapshot P). x.index) s.base ≡ Some m
    → (n == m) ≡ false → has_index s n ≡ true → list_any (is_at n) s.others ≡ true
others_have {P} s m n at other has = go s.base at has
  where
    differs : (b : Snapshot P) → b.index ≡ m → (b.index == n) ≡ false
    differs b is = elim (bool_cases (b.index == n)) [
      | inr e ↦ e
      | inl e ↦ absurd (let h : b.index ≡ n = eq_true b.index n e in let t = true_eq n m (sym h ∙ is) in cc (t, other))
    ]

    go : (base : Option (Snapshot P)) → option_map (λ (x : Snapshot P). x.index) base ≡ Some m
        → (option_map_or (is_at n) base false || list_any (is_at n) s.others) ≡ true
        → list_any (is_at n) s.others ≡ true
    go None e h = cc
    go (Some b) e h = let t = differs b (same_Some b.index m e) in cc (h, t)

-- the base is below the others
base_below : {P : Type 0} (base : Option (Snapshot P)) (others : List (Snapshot P)) (m i : ℕ) (x : Snapshot P)
    → option_map (λ (s : Snapshot P). s.index) base ≡ Some m
    → Rises base others → slice_get others i ≡ Some x → m < x.index
base_below None others m i x e r f = cc
base_below (Some b) others m i x e r f = let is : b.index ≡ m = same_Some b.index m e in
    let h = r.above b i x refl f in omega (arith, is, h)

-- the first that is at the index
found_at : {P : Type 0} (others : List (Snapshot P)) (n : ℕ) → list_any (is_at n) others ≡ true
    → (x : Snapshot P) × (slice_get others (position_or_len (is_at n) others) ≡ Some x) × (x.index ≡ n)
found_at [] n e = cc
found_at {P} (z ∷ others) n e = go (z.index == n) refl (λ h. found_at others n h) e
  where
    go : (b : Bool) → (z.index == n) ≡ b → (list_any (is_at n) others ≡ true
        → (x : Snapshot P) × (slice_get others (position_or_len (is_at n) others) ≡ Some x) × (x.index ≡ n))
        → (b || list_any (is_at n) others) ≡ true
        → (x : Snapshot P) × (slice_get
        (z ∷ others) (cond (not b) (1 + prefix_len (λ x. not (is_at n x)) others) 0) ≡ Some x) × (x.index ≡ n)
    go true t rest h = (z, refl, eq_true z.index n t)
    go false t rest h = let r = rest h in (r.0, rw (one (prefix_len (λ x. not (is_at n x)) others)) r.1, r.2)

-- with another base
pub kept_forgotten : {S : Type 0} (u : Recovering S) (n : ℕ) (shelf : Shelved (Progress S)) (intervals : List Interval)
    → IsKept u → list_any (is_at n) u.shelf.others ≡ true
    → shelf ≡ based_at u.shelf n
    → intervals ≡ drop (n - u.base) u.intervals → IsKept (record u { base = n; shelf = shelf; intervals = intervals })
kept_forgotten {S} u n shelf intervals k has is was = rw is (record {
  base = ap (λ o. option_map (λ (s : Snapshot (Progress S)). s.index) o) b.1 ∙ ap Some b.2;
  stable = omega (arith, a, s, past, top_at);
  few = omega (arith, a, few, past, top_at);
  top = top;
  rises = rw b.1 (rises_based u.shelf.base u.shelf.others at b.0 b.1 k.rises);
  marks = λ i r e. marked i r.mark.index (k.marks i r e);
  outside = rw was (outside_based u.base u.outside n u.intervals k.outside (omega (arith, past)));
})
  where
    at : ℕ
    at = position_or_len (is_at n) u.shelf.others

    b : (x : Snapshot (Progress S)) × (slice_get u.shelf.others at ≡ Some x) × (x.index ≡ n)
    b = found_at u.shelf.others n has

    s : length u.volatile < length u.intervals
    s = k.stable

    few : u.base + length u.intervals ≤ 2 ^ 32
    few = k.few

    past : u.base < n
    past = let h = base_below u.shelf.base u.shelf.others u.base at b.0 k.base k.rises b.1 in
        let e = b.2 in omega (arith, h, e)

    top_at : n ≤ (u.base + length u.intervals) - length u.volatile - 1
    top_at = let h : b.0.index ≤ (u.base + length u.intervals) - length u.volatile - 1 = k.top b.0 (inr (at, b.1)) in
        let e = b.2 in omega (arith, h, e)

    a : length intervals ≡ length u.intervals - (n - u.base)
    a = ap length was ∙ length-drop (n - u.base) u.intervals

    same : (i : ℕ) → i ≤ (u.base + length u.intervals) - length u.volatile - 1
        → i ≤ (n + length intervals) - length u.volatile - 1
    same i h = omega (arith, h, a, s, past, top_at)

    top : (x : Snapshot (Progress S))
        → IsShelved (based_at u.shelf n) x → x.index ≤ (n + length intervals) - length u.volatile - 1
    top x (inl h) = same x.index (k.top x (inr (at, h)))
    top x (inr t) = same x.index (k.top x (inr ((at + 1) + t.0, get_drop u.shelf.others (at + 1) t.0 x t.1)))

    marked : (i m : ℕ) → m ≡ ((u.base + length u.intervals) - length u.volatile) + i
        → m ≡ ((n + length intervals) - length u.volatile) + i
    marked i m h = omega (arith, h, a, s, past, top_at)

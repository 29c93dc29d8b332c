-- What a unit is after its base moved.
use Rattle.std.proofs.Common.{◌≡◌, inl, inr, refl, sym, ◌∙◌, ap, subst, ℕ, suc, ◌+◌, ◌-◌, Bool, true, false, cond, not}
use Rattle.std.proofs.Common.{◌||◌, List, [], ◌∷◌, length, drop, arith, map, length-drop}
use Rattle.std.specs.Prelude.{Some, slice_get, ◌==◌}
use Rattle.std.specs.List.{list_any, position_or_len, prefix_len}
use Rattle.std.specs.Option.{option_map_or}
use Rattle.std.proofs.lemmas.List.{drop-map}
use Rattle.theory.proofs.ListLaws.{eq_true, or_cases, true_eq}
use Rattle.model.specs.Handler.{Meaning}
use Rattle.checkpoint.specs.Shelves.{has_index, is_at}
use Rattle.compact.specs.Compact.{Snapshot, CompactUnit}
use Rattle.compact.specs.Forgetting.{rebased}
use Rattle.rollback.specs.Units.{Recovering, IsKept, based_on, forgotten}
use Rattle.rollback.proofs.Cuts.{one}
use Rattle.rollback_laws.specs.Seen.{IsSeen, shelved_as}
use Rattle.rollback_laws.specs.Laws.{ForgettingIsSeen}
use Rattle.rollback_laws.proofs.Places.{base_is, behind, shelf_low, shelf_there, some_stable, stable_is}

-- the first that is at the index
found_at : {S : Type 0} (xs : List (Snapshot S)) (n : ℕ) → list_any (is_at n) (map shelved_as xs) ≡ true
    → (t : Snapshot S) × (slice_get xs (position_or_len (is_at n) (map shelved_as xs)) ≡ Some t) × (t.index ≡ n)
found_at [] n e = cc
found_at {S} (z ∷ xs) n e = go (z.index == n) refl (λ h. found_at xs n h) e
  where
    go : (b : Bool) → (z.index == n) ≡ b → (list_any (is_at n) (map shelved_as xs) ≡ true
        → (t : Snapshot S) × (slice_get xs (position_or_len (is_at n) (map shelved_as xs)) ≡ Some t) × (t.index ≡ n))
        → (b || list_any (is_at n) (map shelved_as xs)) ≡ true
        → (t : Snapshot S) × (slice_get (z ∷ xs)
        (cond (not b) (1 + prefix_len (λ y. not (is_at n y)) (map shelved_as xs)) 0) ≡ Some t) × (t.index ≡ n)
    go true f rest h = (z, refl, eq_true z.index n f)
    go false f rest h = let r = rest h in
        (r.0, rw (one (prefix_len (λ y. not (is_at n y)) (map shelved_as xs))) r.1, r.2)

module _ {S : Type 0} (r : Recovering S) (x : CompactUnit S) (k : IsKept r)
    (s : IsSeen r x) (base : ℕ) (has : has_index r.shelf base ≡ true) (other : (base == r.base) ≡ false) where
  -- the index is not that of the base
  of_others : list_any (is_at base) r.shelf.others ≡ true
  of_others =
      elim (or_cases (option_map_or (is_at base) r.shelf.base false) (list_any (is_at base) r.shelf.others) has) [
        | inr h ↦ h
        | inl h ↦ absurd (
            let at : (x.base.index == base) ≡ true = ap (λ o. option_map_or (is_at base) o false) (sym s.base) ∙ h in
            let b : x.base.index ≡ r.base = base_is r x k s in
            let same : (base == r.base) ≡ true = true_eq base r.base (sym (eq_true x.base.index base at) ∙ b) in
            cc (same, other))
      ]

  abbrev at : ℕ
  at = position_or_len (is_at base) (map shelved_as x.shelf)

  at_is : position_or_len (is_at base) r.shelf.others ≡ at
  at_is = ap (position_or_len (is_at base)) s.shelf

  found : (t : Snapshot S) × (slice_get x.shelf at ≡ Some t) × (t.index ≡ base)
  found = found_at x.shelf base (ap (list_any (is_at base)) (sym s.shelf) ∙ of_others)

  based_stable : x.stable ≡ (base + length (drop (base - r.base) r.intervals)) - length r.volatile
  based_stable =
      let a = length-drop (base - r.base) r.intervals in
      let b = base_is r x k s in
      let c = stable_is r x k s in
      let d = some_stable r x k s in
      let e = behind r x k s at found.0 found.1 in
      let f = shelf_low r x k s at found.0 found.1 in
      let g = found.2 in
      omega (arith, a, b, c, d, e, f, g)

  based_seen : IsSeen (based_on r base) (rebased x at found.0)
  based_seen = record {
    seat = s.seat;
    up = s.up;
    now = s.now;
    stable = based_stable;
    outside = s.outside;
    base = ap (slice_get r.shelf.others) at_is ∙ shelf_there r x k s at found.0 found.1;
    shelf =
        (λ i. drop (at_is i + 1) (s.shelf i))
        ∙ ap (λ n. drop n (map shelved_as x.shelf)) (let e : at + 1 ≡ suc at = omega arith in e)
        ∙ drop-map shelved_as (suc at) x.shelf;
    intervals = λ i. drop (found.2 i - base_is r x k s i) (s.intervals i);
    volatile = s.volatile;
  }

  forgotten_is : forgotten r base ≡ based_on r base
  forgotten_is = ap (λ b. cond b r (based_on r base)) other

module _ {S : Type 0} (M : Meaning S) where
  -- A recovery unit that forgets up to a shelved index keeps the compact unit with that base.
  pub forgetting_is_seen : ForgettingIsSeen M
  forgetting_is_seen r x k s base has other =
      let f = found r x k s base has other in (
        at r x k s base has other,
        (
          f.0,
          f.1,
          f.2,
          subst (λ z. IsSeen z (rebased x (at r x k s base has other) f.0))
              (sym (forgotten_is r x k s base has other)) (based_seen r x k s base has other),
        ),
      )

-- The first unit whose outputs do not begin with its list.
use Rattle.std.proofs.Common.{◌≡◌, refl, sym, ◌∙◌, ℕ, suc, ◌+◌, ◌<◌, ◌≤◌, Bool, List, length, get_or, take, drop, arith}
use Rattle.std.proofs.Common.{zero-add}
use Rattle.std.specs.Prelude.{IsTrue, ◌↔◌}
use Rattle.std.specs.Cmp.Lexicographic.{pointwise}
use Rattle.std.specs.Str.{bytes_eq}
use Rattle.std.proofs.lemmas.Slice.Eq.{starts_is, bytes_eq-Decides}
use Rattle.std.proofs.lemmas.List.{drop_all, drop_more}
use Rattle.std.proofs.lemmas.Option.{slice_get_read}
use mathlib.Core.List.{IsPrefix}
use Rattle.model.specs.FailureFree.{Worker, BeginWith}
use Rattle.audit.specs.Working.{AreInOrder}
use Rattle.audit.specs.Released.{DiffersFirst}
use Rattle.audit.proofs.Making.{unit_at}

-- Comparing a list with as much of the outputs tells whether it is a beginning of them.
pub begins_is : (outputs list : List (List ℕ)) (r : Bool) → r ≡ pointwise bytes_eq list (take (length list) outputs)
    → IsTrue r ↔ IsPrefix list outputs
begins_is outputs list r e =
    let both = starts_is bytes_eq-Decides outputs list r e in
    (λ t. (drop (length list) outputs, sym (both.0 t)), λ p. both.1 p.0 (sym p.1))

-- what is found from a place on is found of all
abbrev pub IsSoFar : {S : Type 0} → List (Worker S) → List (List (List ℕ)) → ℕ → Type 0
IsSoFar workers released i =
    (BeginWith (drop i workers) (drop i released) → BeginWith workers released)
    × ((u : ℕ) → DiffersFirst (drop i workers) (drop i released) u → DiffersFirst workers released (i + u))

module _ {S : Type 0} (workers : List (Worker S)) (released : List (List (List ℕ))) where
  -- What is found from the first place on is found of all units.
  pub at_first : IsSoFar workers released 0
  at_first = (λ h. h, λ u h. rw (zero-add u) h)

  module _ (i : ℕ) (a : Worker S) (r : List (List ℕ)) (within : i < length workers)
      (same : length released ≡ length workers)
      (is_a : a ≡ get_or workers i a) (is_r : r ≡ get_or released i r) where
    at_next : IsPrefix r a.outputs → (u : ℕ) → DiffersFirst (drop (i + 1) workers) (drop (i + 1) released) u
        → DiffersFirst (drop i workers) (drop i released) (suc u)
    at_next p u h = let k : i < length released = omega arith in
        rw (drop_more workers i a within, drop_more released i r k, ← is_a, ← is_r) (p, h)

    -- Where a unit's outputs begin with its list, the search goes on at the next place.
    pub begins_here : IsPrefix r a.outputs → IsSoFar workers released i → IsSoFar workers released (i + 1)
    begins_here p was = (
      λ h. was.0 (let k : i < length released = omega arith in
          rw (drop_more workers i a within, drop_more released i r k, ← is_a, ← is_r) (p, h)),
      λ u h. let e : i + 1 + u ≡ i + suc u = omega arith in rw e (was.1 (suc u) (at_next p u h)),
    )

    -- Where a unit's outputs do not begin with its list, it is the first that differs.
    pub differs_here : AreInOrder workers → ¬ (IsPrefix r a.outputs) → IsSoFar workers released i
        → DiffersFirst workers released a.seat.unit
    differs_here order p was =
        let k : i < length released = omega arith in
        let here : DiffersFirst (drop i workers) (drop i released) 0 =
        rw (drop_more workers i a within, drop_more released i r k, ← is_a, ← is_r) p in
        let found = slice_get_read workers (length workers) i a refl within is_a in
        let e : a.seat.unit ≡ i + 0 = unit_at workers i a order found ∙ omega arith in
        rw e (was.1 0 here)

  -- Where the search came past the last unit, each unit's outputs begin with its list.
  pub all_begin : (i : ℕ) → length workers ≤ i → length released ≡ length workers → IsSoFar workers released i
      → BeginWith workers released
  all_begin i h same was = let k : length released ≤ i = omega arith in
      was.0 (rw (drop_all i workers h, drop_all i released k) tt)

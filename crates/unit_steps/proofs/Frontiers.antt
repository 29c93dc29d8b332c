-- How far a path is firm.
use Rattle.std.proofs.Common.{◌≡◌, refl, sym, ◌∙◌, ℕ, suc, ◌+◌, ◌-◌, ◌<◌, ◌≤◌, Bool, true, false, List, length, drop}
use Rattle.std.proofs.Common.{map, arith}
use Rattle.std.specs.Prelude.{Some, slice_get}
use Rattle.std.proofs.lemmas.List.Sums.{take_while-cons}
use Rattle.std.proofs.lemmas.List.{drop_all}
use Rattle.model.specs.declared.names.Row.{Row}
use Rattle.compact.specs.Compact.{Interval}
use Rattle.compact.specs.Laws.{firm_front, is_firm_by}
use Rattle.model.proofs.Places.{get_below}
use Rattle.rollback.specs.Units.{Recovering, places}
use Rattle.unit_steps.specs.Receipts.{frontier_of}
use Rattle.theory.proofs.Simulation.{drop_at}

module _ (rows : List Row) (stable_lengths : List ℕ) (intervals : List Interval) (k : ℕ) where
  -- how many from this place on are firm
  abbrev front : ℕ → ℕ
  front n = firm_front rows stable_lengths (map (λ i. i.vector) (drop n intervals))

  pub front_goes_on : (x : Interval)
      → slice_get intervals k ≡ Some x → is_firm_by rows stable_lengths x.vector ≡ true → front k ≡ suc (front (suc k))
  front_goes_on x at firm = rw (
    drop_at intervals k x at,
    take_while-cons
        (is_firm_by rows stable_lengths) x.vector (map (λ i. i.vector) (drop (suc k) intervals)),
    firm,
  ) refl

  pub front_ends : (x : Interval)
      → slice_get intervals k ≡ Some x → is_firm_by rows stable_lengths x.vector ≡ false → front k ≡ 0
  front_ends x at firm = rw (
    drop_at intervals k x at,
    take_while-cons
        (is_firm_by rows stable_lengths) x.vector (map (λ i. i.vector) (drop (suc k) intervals)),
    firm,
  ) refl

  pub front_ends_past : length intervals ≤ k → front k ≡ 0
  front_ends_past h = rw (drop_all k intervals h) refl

module _ {S : Type 0} (rows : List Row) (stable_lengths : List ℕ) (r : Recovering S) (k : ℕ) (base : r.base ≤ k) where
  abbrev test : Interval → Bool
  test x = is_firm_by rows stable_lengths x.vector

  -- Where the interval at a place is firm, the frontier from there is the frontier from the next place.
  pub goes_on : k < places r → (b : Bool) → b ≡ true → ((x : Interval) → slice_get r.intervals (k - r.base) ≡ Some x
      → b ≡ test x) → frontier_of rows stable_lengths r (k + 1) ≡ frontier_of rows stable_lengths r k
  goes_on within b firm same =
      let x = get_below r.intervals (k - r.base) (omega (arith, within, base)) in
      let one = front_goes_on rows stable_lengths r.intervals (k - r.base) x.0 x.1 (sym (same x.0 x.1) ∙ firm) in
      let next : (k + 1) - r.base ≡ suc (k - r.base) = omega (arith, base) in
      rw next (omega (arith, one))

  -- Where the interval at a place is not firm, the frontier from there on stays there.
  pub ends : k < places r → (b : Bool) → b ≡ false → ((x : Interval)
      → slice_get r.intervals (k - r.base) ≡ Some x → b ≡ test x) → k ≡ frontier_of rows stable_lengths r k
  ends within b left same =
      let x = get_below r.intervals (k - r.base) (omega (arith, within, base)) in
      let none = front_ends rows stable_lengths r.intervals (k - r.base) x.0 x.1 (sym (same x.0 x.1) ∙ left) in
      omega (arith, none)

  pub ends_past : places r ≤ k → k ≡ frontier_of rows stable_lengths r k
  ends_past past = let none =
      front_ends_past rows stable_lengths r.intervals (k - r.base) (omega (arith, past, base)) in omega (arith, none)

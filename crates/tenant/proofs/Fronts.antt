-- How frontiers go on, one unit after another.
use Rattle.std.proofs.Common.{◌≡◌, ◌⊎◌, inl, inr, refl, sym, ◌∙◌, ap, subst, ℕ, ◌+◌, ◌<◌, ◌≤◌, List, length, get_or}
use Rattle.std.proofs.Common.{arith}
use Rattle.std.specs.Prelude.{Some, slice_get, slice_set}
use Rattle.std.proofs.lemmas.Option.{get_or_from_slice_get, same_Some}
use Rattle.model.specs.declared.names.Row.{Row}
use Rattle.model.proofs.Places.{get_below}
use Rattle.theory.proofs.ListLaws.{set_get_other, set_get_same}
use Rattle.unit_steps.specs.Receipts.{IsFrontier, frontier_of}
use Rattle.rollback.specs.Units.{stable_places}
use Rattle.tenant.specs.Kept.{GoOn, MakesStable, TenantState, Member, flushed_member}

module _ {S : Type 0} (table : List Row) (lengths : List ℕ) (members : List (Member S)) (old : List ℕ) where
  -- those before this place have gone on
  abbrev pub GoneOn : ℕ → List ℕ → Type 0
  GoneOn i fs = (u : ℕ) (m : Member S) (f : ℕ) → u < i → slice_get members u ≡ Some m → slice_get old u ≡ Some f
      → IsFrontier (length lengths) m.unit_state f → slice_get fs u ≡ Some (frontier_of table lengths m.unit_state f)

  abbrev pub AsBefore : ℕ → List ℕ → Type 0
  AsBefore i fs = (u : ℕ) → i ≤ u → slice_get fs u ≡ slice_get old u

  module _ (fs : List ℕ) (i read front : ℕ)
      (long : length fs ≡ length old) (within : i < length fs) (is : read ≡ get_or fs i read)
      (gives : (m : Member S) → slice_get members i ≡ Some m
      → IsFrontier (length lengths) m.unit_state read → front ≡ frontier_of table lengths m.unit_state read) where
    there : slice_get fs i ≡ Some read
    there = let y = get_below fs i within in y.1 ∙ ap (λ n. Some n) (sym (is ∙ get_or_from_slice_get fs i y.0 read y.1))

    -- Once a unit's frontier is written, the frontiers up to that unit's have gone on.
    pub gone_one : GoneOn i fs → AsBefore i fs → GoneOn (i + 1) (slice_set fs i front)
    gone_one done rest u m f below found was is_front = elim (at_last u below) [
      | inl h ↦ set_get_other fs i u front (λ e. omega (arith, h, e)) ∙ done u m f h found was is_front
      | inr e ↦
          let same : read ≡ f =
          same_Some read f (sym there ∙ rest i (omega arith) ∙ ap (slice_get old) (sym e) ∙ was) in
          ap (slice_get (slice_set fs i front)) e ∙ set_get_same fs i front read there
          ∙ ap (λ n. Some n) (gives m (ap (slice_get members) (sym e) ∙ found)
          (subst (λ (n : ℕ). IsFrontier (length lengths) m.unit_state n) (sym same) is_front)
          ∙ ap (frontier_of table lengths m.unit_state) same)
    ]
      where
        at_last : (u : ℕ) → u < i + 1 → (u < i) ⊎ (u ≡ i)
        at_last u h = grind arith

    -- Once a unit's frontier is written, the frontiers behind it are as before.
    pub before_one : AsBefore i fs → AsBefore (i + 1) (slice_set fs i front)
    before_one rest u above = set_get_other fs i u front (λ e. omega (arith, above, e)) ∙ rest u (omega (arith, above))

-- what a tenant is once a unit's intervals are stable and the frontiers have gone on
module _ {S : Type 0} (v : TenantState S) (u count at : ℕ) (same : at ≡ u)
    (m : Member S) (found : slice_get v.members u ≡ Some m) (members : List (Member S)) (lengths fronts : List ℕ)
    (moved : (m : Member S) → slice_get v.members at ≡ Some m
    → members ≡ slice_set v.members at (flushed_member m count))
    (longer : (m : Member S) → slice_get v.members at ≡ Some m
    → lengths ≡ slice_set v.stable_lengths at (stable_places (flushed_member m count).unit_state))
    (long : length fronts ≡ length v.frontiers) where
  there_too : slice_get v.members at ≡ Some m
  there_too = ap (slice_get v.members) same ∙ found

  -- A tenant with a flushed unit and with frontiers gone on has so many more stable intervals.
  pub flushed_by : (seen_members : List (Member S)) (seen_lengths : List ℕ)
      → seen_members ≡ members → seen_lengths ≡ lengths → GoOn v.table seen_lengths seen_members v.frontiers fronts
      → MakesStable v u count m (record v { members = members; stable_lengths = lengths; frontiers = fronts })
  flushed_by seen_members seen_lengths a b go = record {
    quota = refl;
    optimism = refl;
    table = refl;
    members = moved m there_too ∙ ap (λ n. slice_set v.members n (flushed_member m count)) same;
    stable_lengths = longer m there_too
        ∙ ap (λ n. slice_set v.stable_lengths n (stable_places (flushed_member m count).unit_state)) same;
    fronts = long;
    frontiers = subst (λ (ls : List ℕ). GoOn v.table ls members v.frontiers fronts) b
        (subst (λ (ms : List (Member S)). GoOn v.table seen_lengths ms v.frontiers fronts) a go);
    gone = refl;
    released = refl;
    letters = refl;
  }

-- What a recovery unit and the unit of the compact state that it keeps have in common.
use Rattle.std.specs.Prelude.{◌≡◌, ◌⊎◌, ℕ, ◌+◌, ◌-◌, ◌<◌, ◌≤◌, false, List, Some, drop, length, map, min, slice_get}
use Rattle.std.specs.Prelude.{take}
use Rattle.std.specs.Option.{is_some}
use Rattle.model.specs.declared.records.Record.{Record}
use Rattle.model.specs.Handler.{Meaning}
use Rattle.checkpoint.specs.declared.snapshot.Snapshot.{Snapshot as Shelf}
use Rattle.checkpoint.specs.Shelves.{nearest_of}
use Rattle.orphan.specs.Tests.{is_orphan_by}
use Rattle.compact.specs.Compact.{Compact, Interval, Progress, Snapshot, CompactUnit}
use Rattle.compact.specs.Steps.{back_unit, kept_places, places as all_of}
use Rattle.compact.specs.StepLaws.{IsRebuilt}
use Rattle.rollback.specs.Units.{Recovering, IsTarget, OrphansAreTail, places as all_places, restored, stable_places}

-- a snapshot of the compact state, as a shelf has it
abbrev pub shelved_as : {S : Type 0} → Snapshot S → Shelf (Progress S)
shelved_as s = record { index = s.index; state = s.progress }

-- The recovery unit keeps this unit of the compact state. How many rows the unit knows, its frontier, the places of its
-- records in the log, and its outputs are kept elsewhere.
pub record IsSeen {S : Type 0} (r : Recovering S) (x : CompactUnit S) : Type 0 where
  pub seat : x.seat ≡ r.seat
  pub up : x.up ≡ is_some r.progress
  pub now : (p : Progress S) → r.progress ≡ Some p → x.now ≡ p
  pub stable : x.stable ≡ stable_places r
  pub outside : x.outside ≡ r.outside
  pub base : r.shelf.base ≡ Some (shelved_as x.base)
  pub shelf : r.shelf.others ≡ map shelved_as x.shelf
  pub intervals : x.intervals ≡ r.intervals
  pub volatile : x.volatile ≡ r.volatile

-- the same base, as many places, and as many that are not stable
pub record HasPlaces {S : Type 0} (r : Recovering S) (x : CompactUnit S) : Type 0 where
  pub base : x.base.index ≡ r.base
  pub long : all_of x ≡ all_places r
  pub unstable : all_of x - x.stable ≡ length r.volatile

-- ---- going back

-- this snapshot of the unit is the one from which it goes back to the target, the last place that is kept
pub record BeginsAt {S : Type 0} (r : Recovering S) (k : Compact S) (x : CompactUnit S) (target : ℕ)
    (s : Snapshot S) : Type 0 where
  pub there : (s ≡ x.base) ⊎ ((i : ℕ) × (slice_get x.shelf i ≡ Some s))
  pub nearest : nearest_of r.shelf target ≡ Some (shelved_as s)
  pub within : s.index < kept_places k x

-- these records are the stable ones behind the snapshot that are kept, as the log has them
abbrev pub IsRead : {S : Type 0} → Compact S → CompactUnit S → List Record → Snapshot S → List Record → Type 0
IsRead k x log s fetched =
    map (λ q. Some q) fetched
    ≡ take (min (kept_places k x) x.stable - 1 - s.index)
    (drop (s.index - x.base.index) (map (slice_get log) x.live))

-- what the unit is rebuilt to with these records is what replay gives, and is seen then
pub record IsRestored {S : Type 0} (M : Meaning S) (r : Recovering S) (k : Compact S) (x : CompactUnit S)
    (log : List Record)
    (target : ℕ) (fetched : List Record) : Type 0 where
  pub progress : Progress S
  pub there : (restored M r target (length k.units) fetched).progress ≡ Some progress
  pub rebuilt : IsRebuilt M k x log progress
  pub seen : IsSeen (restored M r target (length k.units) fetched) (back_unit k x progress)

-- ---- what holds of a unit of a tenant

-- no interval that the unit keeps below its frontier is an orphan
abbrev pub IsClean : {S : Type 0} → Recovering S → Compact S → CompactUnit S → Type 0
IsClean r k x = (i : ℕ) (v : Interval) → i < x.frontier - x.base.index → slice_get r.intervals i ≡ Some v
    → is_orphan_by k.table v.vector ≡ false

-- what the search for the first orphan, going back, and the laws of both ask for
pub record IsReady {S : Type 0} (r : Recovering S) (k : Compact S) (x : CompactUnit S) : Type 0 where
  pub firm_base : x.base.index < x.frontier
  pub front : x.frontier ≤ all_of x
  pub clean : IsClean r k x
  pub tail : OrphansAreTail k.table r.intervals
  pub live : length x.live ≡ x.stable - 1 - x.base.index
  pub target : IsTarget r (kept_places k x - 1)
  pub last : kept_places k x - 1 + 1 ≡ kept_places k x

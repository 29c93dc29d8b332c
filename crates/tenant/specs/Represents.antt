-- Which world a tenant stands for over a whole log, and what each step does whatever that log.
use Rattle.std.specs.Prelude.{◌≡◌, ◌++◌, ◌-◌, drop, ℕ, List, length, Option, Some, None, slice_get}
use Rattle.model.specs.declared.names.Quota.{Quota}
use Rattle.model.specs.declared.records.Record.{Record}
use Rattle.model.specs.declared.replies.Reply.{Reply}
use Rattle.model.specs.Handler.{Meaning}
use Rattle.model.specs.World.{World}
use Rattle.model.specs.Steps.{Outcome, open_new}
use Rattle.compact.specs.Compact.{Compact, CompactUnit}
use Rattle.compact.specs.StepLaws.{StandsCompact}
use Rattle.rollback.specs.Units.{IsKept}
use Rattle.rollback_laws.specs.Seen.{IsSeen}
use Rattle.tenant.specs.Kept.{TenantState, Member}

-- these places are the last of those: before them may stand some of another tenant that had the name
abbrev pub AreLast : List ℕ → List ℕ → Type 0
AreLast own live = own ≡ drop (length live - length own) live

-- All that a unit released: as many texts as were given up, and those behind them.
abbrev pub IsReleased : Option ℕ → Option (List (List ℕ)) → List (List ℕ) → Type 0
IsReleased gone kept all =
    (front : List (List ℕ)) × (texts : List (List ℕ)) × (gone ≡ Some (length front)) × (kept ≡ Some texts)
    × (all ≡ front ++ texts)

-- The tenant keeps this unit of the compact state as its u-th. `live` tells the places in the log of each unit's live
-- records.
pub record IsMember {S : Type 0} (t : TenantState S) (live : ℕ → List ℕ) (u : ℕ) (m : Member S)
    (x : CompactUnit S) : Type 0 where
  pub kept : IsKept m.unit_state
  pub seen : IsSeen m.unit_state x
  pub own : m.unit ≡ u
  pub outputs : x.hold ≡ m.outputs
  pub known : x.known ≡ m.known
  pub stable : slice_get t.stable_lengths u ≡ Some x.stable
  pub frontier : slice_get t.frontiers u ≡ Some x.frontier
  pub released : IsReleased (slice_get t.gone u) (slice_get t.released u) x.released
  pub places : AreLast x.live (live u)

-- the tenant keeps this compact state
pub record IsCompact {S : Type 0} (t : TenantState S) (live : ℕ → List ℕ) (k : Compact S) : Type 0 where
  pub quota : k.quota ≡ t.quota
  pub optimism : k.optimism ≡ t.optimism
  pub table : k.table ≡ t.table
  pub width : length t.members ≡ length k.units
  pub stables : length t.stable_lengths ≡ length k.units
  pub fronts : length t.frontiers ≡ length k.units
  pub counts : length t.gone ≡ length k.units
  pub lines : length t.released ≡ length k.units
  pub members : (u : ℕ) (m : Member S) (x : CompactUnit S) → slice_get t.members u ≡ Some m
      → slice_get k.units u ≡ Some x
      → IsMember t live u m x
  pub letters : k.letters ≡ t.letters

-- The tenant of this name stands for a world that it can come to, where the log has these records.
abbrev pub StandsFor : {S : Type 0} → Meaning S → List ℕ → (ℕ → List ℕ) → TenantState S → World → List Record → Type 0
StandsFor {S} M name live t w log = (k : Compact S) × IsCompact t live k × StandsCompact M name k w log

-- the reply is that of the definitions, and the tenant stands for the world after the step
abbrev pub Leaves : {S : Type 0} → Meaning S → List ℕ → (ℕ → List ℕ) → Outcome → Reply → TenantState S → List Record
    → Type 0
Leaves M name live outcome reply t log =
    (z : World) × (outcome ≡ record { reply = reply; world = Some z }) × StandsFor M name live t z log

-- For each world that the tenant of this name stands for, the reply is that of the step of the definitions, and the
-- tenant then stands for the world after it.
abbrev pub DoesAs : {S : Type 0} → Meaning S → List ℕ → (World → Outcome) → TenantState S → Reply → TenantState S
    → Type 0
DoesAs M name step before reply after =
    (live : ℕ → List ℕ) (w : World) (log : List Record) → StandsFor M name live before w log
    → Leaves M name live (step w) reply after log

-- So it is whatever the tenant's name.
abbrev pub Does : {S : Type 0} → Meaning S → (World → Outcome) → TenantState S → Reply → TenantState S → Type 0
Does M step before reply after =
    (name : List ℕ) (live : ℕ → List ℕ) (w : World) (log : List Record) → StandsFor M name live before w log
    → Leaves M name live (step w) reply after log

-- A tenant was opened with these, or not: then it stands for the opened world, whatever its name and the log.
abbrev pub OpensAs : {S : Type 0} → Meaning S → List (List ℕ) → Quota → ℕ → Reply → Option (TenantState S) → Type 0
OpensAs M kinds quota optimism reply None = open_new M kinds quota optimism ≡ record { reply = reply; world = None }
OpensAs M kinds quota optimism reply (Some t) =
    (name : List ℕ) (live : ℕ → List ℕ) (log : List Record)
    → Leaves M name live (open_new M kinds quota optimism) reply t log

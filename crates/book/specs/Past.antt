-- What a book keeps of the past of each tenant.
use Rattle.std.specs.Prelude.{◌≡◌, ℕ, List, MatchOption, Option, Some, None, length, slice_get}
use Rattle.model.specs.Alone.{Event}
use Rattle.model.specs.Handler.{Meaning}
use Rattle.model.specs.History.{own, pairs}
use Rattle.model.specs.Keeping.{Keeping, Shelf, kept_at, keeping, keeping_on}
use Rattle.model.specs.World.{Member, World}
use Rattle.model.specs.declared.kept.Kept.{Kept as Amount}
use Rattle.model.specs.declared.records.Record.{Record}
use Rattle.model.specs.declared.replies.Entry.{Entry}
use Rattle.shared_log.specs.Logged.{places_from}
use Rattle.tenant.specs.declared.footprint.Footprint.{Footprint}
use Rattle.tenant.specs.Footprint.{IsFootprint}
use Rattle.tenant.specs.Past.{KeepsPast}
use Rattle.tenant.specs.Kept.{TenantState}
use Rattle.tenant.specs.Live.{AreLive, HasJust, amount_live}

-- a tenant's world after these entries, and the checkpoints that they leave its units
abbrev pub keeping_after : {S : Type 0} → Meaning S → List ℕ → List Entry → Keeping
keeping_after M tenant history = keeping M (own tenant (pairs history))

-- how much they leave of this unit's past, if tenant and unit are there
abbrev pub kept_after : {S : Type 0} → Meaning S → List ℕ → List Entry → ℕ → Option Amount
kept_after M tenant history unit = kept_at M (keeping_after M tenant history) unit

-- A unit of this world is there just where a footprint is told, which is that of the unit with these checkpoints.
abbrev pub FootprintIn : {S : Type 0} → Meaning S → Option World → List Shelf → ℕ → Option Footprint → Type 0
FootprintIn M None shelves u found = found ≡ None
FootprintIn M (Some w) shelves u found = MatchOption found (slice_get w.members u ≡ None) (λ f. (m : Member) (s : Shelf)
    → slice_get w.members u ≡ Some m → slice_get shelves u ≡ Some s → IsFootprint M w u m s f)

-- So it is of the tenant's world after these entries, with the checkpoints that they leave.
abbrev pub FootprintAfter : {S : Type 0} → Meaning S → List ℕ → List Entry → ℕ → Option Footprint → Type 0
FootprintAfter M tenant history u found =
    let k = keeping_after M tenant history in FootprintIn M k.world k.shelves u found

-- the tenant, if there is one, keeps of its past what leaves it these checkpoints
abbrev pub KeepsIn : {S : Type 0} → Option (TenantState S) → Option World → List Shelf → Type 0
KeepsIn None w shelves = Unit {0}
KeepsIn (Some t) None shelves = ⊥
KeepsIn (Some t) (Some w) shelves = KeepsPast t w shelves

-- so it is after some events of the tenant
abbrev pub KeepsAt : {S : Type 0} → Option (TenantState S) → Keeping → Type 0
KeepsAt t k = KeepsIn t k.world k.shelves

-- a step of this world keeps what the rules leave, whatever the checkpoints before
abbrev pub KeepsOnAt : {S : Type 0} → Meaning S → Option World → Option (TenantState S) → Event
    → Option (TenantState S) → Type 0
KeepsOnAt M w before e after =
    (shelves : List Shelf) → KeepsIn before w shelves
    → KeepsAt after (keeping_on M (record { world = w; shelves = shelves }) e)

-- ---- which records are live

-- the log has as many live records of each of the tenant's units as some events of it leave
abbrev pub HasJustAt : {S : Type 0} → Meaning S → List ℕ → Keeping → List (Option Record) → Type 0
HasJustAt M tenant k records = HasJust M tenant k.world k.shelves records

-- A step of this world leaves just what the rules leave, whatever the checkpoints before.
abbrev pub KeepsJustAt : {S : Type 0} → Meaning S → List ℕ → Option World → Option (TenantState S) → Event
    → List (Option Record) → List (Option Record) → Type 0
KeepsJustAt M tenant w t e before after =
    (shelves : List Shelf) → KeepsIn t w shelves → HasJust M tenant w shelves before
    → HasJustAt M tenant (keeping_on M (record { world = w; shelves = shelves }) e) after

-- The live records of each unit of a tenant are those behind its base, in order, and no others: the records of the
-- stable intervals of its path. They are as many as is told to be kept of them. Of a name that isn't open none is live.
pub record LiveAfter {S : Type 0} (M : Meaning S) (history : List Entry) (records : List (Option Record)) : Type 0 where
  pub are : (tenant : List ℕ) → let k = keeping_after M tenant history in
      AreLive M tenant k.world k.shelves records
  pub count : (tenant : List ℕ) (unit : ℕ)
      → length (places_from tenant unit 0 records) ≡ amount_live (kept_after M tenant history unit)

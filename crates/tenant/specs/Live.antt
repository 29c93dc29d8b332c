-- Which records of a tenant are live in the log: those that its units may still need, and no others.
use Rattle.std.specs.Prelude.{◌≡◌, ℕ, suc, false, List, [], length, drop, map, Option, Some, None, slice_get, bytes_eq}
use Rattle.model.specs.declared.kept.Kept.{Kept as Amount}
use Rattle.model.specs.declared.records.Record.{Record}
use Rattle.model.specs.declared.replies.Reply.{Reply}
use Rattle.model.specs.declared.replies.Said.{Said}
use Rattle.model.specs.declared.steps.TenantStep.{TenantStep}
use Rattle.model.specs.Alone.{step_open}
use Rattle.model.specs.Handler.{Meaning}
use Rattle.model.specs.Keeping.{Shelf, kept_of, shelves_after}
use Rattle.model.specs.Records.{record_of}
use Rattle.model.specs.World.{Member, World, stable_path}
use Rattle.shared_log.specs.Logged.{places_from}
use Rattle.tenant.specs.Past.{KeepsPast}
use Rattle.tenant.specs.Kept.{TenantState, Member as Own, live_count}
use Rattle.tenant.specs.Outcomes.{done}
use Rattle.tenant.specs.Stands.{Stands}

-- ---- how many

-- how many records that is: none of a unit that isn't there
abbrev pub amount_live : Option Amount → ℕ
amount_live None = 0
amount_live (Some a) = a.records

-- Of each unit as many records are live as the rules of keeping leave of its past. Of a name that isn't open none is.
abbrev pub HasJust : {S : Type 0} → Meaning S → List ℕ → Option World → List Shelf → List (Option Record) → Type 0
HasJust M name w shelves records =
    (u : ℕ) → length (places_from name u 0 records) ≡ amount_live (kept_of M w shelves u)

-- A step leaves just what the rules leave: where it is of this world, and leaves that one.
abbrev pub KeepsJust : {S : Type 0} → Meaning S → List ℕ → TenantState S → TenantStep → Said → Reply
    → List (Option Record) → List (Option Record) → Type 0
KeepsJust M name t step said reply before after =
    (w z : World) (shelves : List Shelf) → Stands M name t w before → step_open M w step said ≡ done reply z
    → KeepsPast t w shelves → HasJust M name (Some w) shelves before
    → HasJust M name (Some z) (shelves_after z step reply shelves) after

-- how many of a unit's records are live, if the unit is there
abbrev pub live_of : {S : Type 0} → Option (Own S) → ℕ
live_of None = 0
live_of (Some m) = live_count m.unit_state

-- Of each unit as many records are live as the tenant has behind the unit's base.
abbrev pub HasOwn : {S : Type 0} → List ℕ → TenantState S → List (Option Record) → Type 0
HasOwn name t records = (u : ℕ) → length (places_from name u 0 records) ≡ live_of (slice_get t.members u)

-- Where a tenant that stands for some world had just its own live records, another then has just its own.
abbrev pub StaysJust : {S : Type 0} → Meaning S → List ℕ → TenantState S → List (Option Record) → TenantState S
    → List (Option Record) → Type 0
StaysJust M name t before v after = (w : World) → Stands M name t w before → HasOwn name t before → HasOwn name v after

-- Each unit of other tenants has the live records that it had.
abbrev pub OthersLive : List ℕ → List (Option Record) → List (Option Record) → Type 0
OthersLive name before after = (other : List ℕ) (u : ℕ) → bytes_eq other name ≡ false
    → places_from other u 0 after ≡ places_from other u 0 before

-- ---- which

-- the records of the stable intervals of the unit's path behind its base, if the unit is there
abbrev pub records_if : {S : Type 0} → Meaning S → List ℕ → World → Option Member → Option Shelf → List Record
records_if M name w None shelf = []
records_if M name w (Some m) None = []
records_if M name w (Some m) (Some s) =
    map (record_of M name w) (drop (suc s.base) (stable_path m))

-- so it is of a tenant that may be unopened
abbrev pub records_kept : {S : Type 0} → Meaning S → List ℕ → Option World → List Shelf → ℕ → List Record
records_kept M name None shelves u = []
records_kept M name (Some w) shelves u = records_if M name w (slice_get w.members u) (slice_get shelves u)

-- The live records of each unit are just those, in order: every other place of the tenant's is empty.
abbrev pub AreLive : {S : Type 0} → Meaning S → List ℕ → Option World → List Shelf → List (Option Record) → Type 0
AreLive M name w shelves records =
    (u : ℕ) → map (slice_get records) (places_from name u 0 records)
    ≡ map (λ r. Some (Some r)) (records_kept M name w shelves u)

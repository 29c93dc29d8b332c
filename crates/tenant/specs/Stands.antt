-- What the crates above may use of a tenant: which world it stands for over a log that may have forgotten records.
use Rattle.std.specs.Prelude.{◌≡◌, ℕ, List, Option, Some, None, false, bytes_eq, option_map, slice_get}
use Rattle.model.specs.declared.names.Quota.{Quota}
use Rattle.model.specs.declared.records.Record.{Record}
use Rattle.model.specs.declared.replies.End.TheVariants.{Device}
use Rattle.model.specs.declared.replies.Reply.{Reply}
use Rattle.model.specs.declared.replies.Said.{Said}
use Rattle.model.specs.declared.steps.TenantStep.{TenantStep}
use Rattle.model.specs.Alone.{step_open}
use Rattle.model.specs.Failures.{HasRisen}
use Rattle.model.specs.Handler.{Meaning}
use Rattle.model.specs.Records.{IsHonest}
use Rattle.model.specs.Steps.{open_new}
use Rattle.model.specs.Nodes.{Message}
use Rattle.model.specs.World.{World, executed}
use Rattle.shared_log.specs.Logged.{Grows, IsLeftOf, Logged, places_from}
pub use Rattle.tenant.specs.Kept.{KeepsNoText, KeepsNoTextBut, KeepsTexts, TenantState}
use Rattle.tenant.specs.Outcomes.{done}
use Rattle.tenant.specs.Represents.{StandsFor}

-- the places of the live records of each unit of this tenant
abbrev pub live_in : List ℕ → List (Option Record) → ℕ → List ℕ
live_in name records = λ u. places_from name u 0 records

-- The tenant of this name stands for the world, where the log has these records, with empty places for those that were
-- forgotten: they are what is left of a whole list.
pub record IsStanding {S : Type 0} (M : Meaning S) (name : List ℕ) (t : TenantState S) (w : World)
    (records : List (Option Record)) : Type 0 where
  pub whole : List Record
  pub left : IsLeftOf records whole
  pub stands : StandsFor M name (live_in name records) t w whole

-- The same, closed: whoever stands above passes it on, and can't look into it without saying so.
unfoldable pub Stands : {S : Type 0} → Meaning S → List ℕ → TenantState S → World → List (Option Record) → Type 0
Stands M name t w records = IsStanding M name t w records

-- the tenant, if there is one, stands for the world, if there is one
abbrev pub StandsAt : {S : Type 0} → Meaning S → List ℕ → Option (TenantState S) → Option World → List (Option Record)
    → Type 0
StandsAt M name None None records = Unit {0}
StandsAt M name None (Some w) records = ⊥
StandsAt M name (Some k) None records = ⊥
StandsAt M name (Some k) (Some w) records = Stands M name k w records

-- What the store said during a step is honest: the log grew by just the records that the definitions name
-- (it may have forgotten others), and the device is said to have failed only where it did.
pub record Logs {S : Type 0} (M : Meaning S) (name : List ℕ) (w : World) (step : TenantStep) (said : Said)
    (before after : Logged) : Type 0 where
  pub honest : (grown : List Record) × Grows before.records grown after.records × IsHonest M name w step said grown
  pub device : said.end ≡ Device → HasRisen before.failures after.failures

-- What other tenants stand for stays.
abbrev pub OthersStand : {S : Type 0} → Meaning S → List ℕ → List (Option Record) → List (Option Record) → Type 0
OthersStand {S} M name before after = (k : TenantState S) (w : World) (other : List ℕ) → bytes_eq other name ≡ false
    → Stands M other k w before → Stands M other k w after

-- the reply to a step of this world is that of the definitions for what the store said, and the tenant stands for the
-- world after it
abbrev pub Steps : {S : Type 0} → Meaning S → List ℕ → World → TenantState S → TenantStep → Said → Reply
    → List (Option Record) → Type 0
Steps M name w k step said answer records =
    (z : World) × (step_open M w step said ≡ done answer z) × Stands M name k z records

-- a step of this world was done
pub record Did {S : Type 0} (M : Meaning S) (name : List ℕ) (w : World) (k : TenantState S) (step : TenantStep)
    (said : Said) (answer : Reply) (before after : Logged) : Type 0 where
  pub steps : Steps M name w k step said answer after.records
  pub logs : Logs M name w step said before after

-- a tenant was opened with these, or not
abbrev pub IsOpened : {S : Type 0} → Meaning S → List (List ℕ) → Quota → ℕ → Reply → Option (TenantState S) → Type 0
IsOpened M kinds quota optimism answer t =
    (z : Option World) × (open_new M kinds quota optimism ≡ record { reply = answer; world = z })
    × ((name : List ℕ) (records : List (Option Record)) → StandsAt M name t z records)

-- what a unit of the world has released, if the unit is there
abbrev pub released_in : World → ℕ → Option (List (List ℕ))
released_in w u = option_map (λ m. m.released) (slice_get w.members u)

-- whom a letter of the world is to, if it was made
abbrev pub receiver_in : {S : Type 0} → Meaning S → World → ℕ → Option ℕ
receiver_in M w letter = option_map (λ (m : Message). m.receiver) (slice_get (executed M w).letters letter)

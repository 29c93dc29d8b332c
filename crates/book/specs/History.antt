-- What a history makes of the tenants and of the log.
use Rattle.std.specs.Prelude.{◌≡◌, ◌≤◌, ◌+◌, ℕ, false, List, [], ◌∷◌, ◌++◌, Option, Some, None, option_map, bytes_eq}
use Rattle.std.specs.List.{filter, flat_map}
use Rattle.indexmap.specs.IndexMap.{IndexMap, get, keys}
use Rattle.model.specs.Addresses.{addressed}
use Rattle.model.specs.Alone.{alone, step as step_alone}
use Rattle.model.specs.Failures.{HasRisen}
use Rattle.model.specs.Handler.{Meaning}
use Rattle.model.specs.History.{names, own, pairs, replies_to, IsLegal}
use Rattle.model.specs.Records.{IsHonest, IsQuiet}
use Rattle.model.specs.World.{World}
use Rattle.model.specs.declared.names.Row.{Row}
use Rattle.model.specs.declared.records.Record.{Record}
use Rattle.model.specs.declared.replies.End.TheVariants.{Device}
use Rattle.model.specs.declared.replies.Entry.{Entry}
use Rattle.model.specs.declared.replies.Reply.{Reply}
use Rattle.model.specs.declared.replies.Reply.TheVariants.{Opened}
use Rattle.model.specs.declared.replies.Said.{Said}
use Rattle.model.specs.declared.replies.Who.TheVariants.{Caller}
use Rattle.model.specs.declared.steps.Step.{Step}
use Rattle.model.specs.declared.steps.TenantStep.{TenantStep}
use Rattle.model.specs.declared.steps.TenantStep.TheVariants.{Open}
use Rattle.shared_log.specs.Logged.{Grows, IsLeftOf, Logged}
use Rattle.tenant.specs.Live.{OthersLive}
use Rattle.tenant.specs.Stands.{TenantState, StandsAt, receiver_in, released_in}
use Rattle.book.specs.Entries.{CountsDevice, Ledger, IsEntered}
use Rattle.book.specs.Past.{HasJustAt, KeepsAt, KeepsJustAt, KeepsOnAt, keeping_after}

-- ---- tenants

-- the world that a tenant's own entries make, if they open it
abbrev pub world_of : {S : Type 0} → Meaning S → List ℕ → List Entry → Option World
world_of M tenant history = (alone M (own tenant (pairs history))).world

-- the entries that name the tenant, in order
abbrev pub entries_of : List ℕ → List Entry → List Entry
entries_of tenant history = filter (λ e. names tenant e.step) history

-- what a unit of the world has released, if both are there
abbrev pub released_at : Option World → ℕ → Option (List (List ℕ))
released_at None unit = None
released_at (Some w) unit = released_in w unit

-- whom a letter of the world is to, if both are there
abbrev pub receiver_at : {S : Type 0} → Meaning S → Option World → ℕ → Option ℕ
receiver_at M None letter = None
receiver_at M (Some w) letter = receiver_in M w letter

-- the rows of the world's table, if it is there
abbrev pub table_at : Option World → Option (List Row)
table_at w = option_map (λ z. z.table) w

-- the tenant, where this reply says that it was opened
abbrev pub named_if_opened : List ℕ → Reply → List (List ℕ)
named_if_opened tenant (Opened units) = tenant ∷ []
named_if_opened tenant _ = []

-- the tenant, where this step with this reply opened it
abbrev pub opened_by : List ℕ → TenantStep → Reply → List (List ℕ)
opened_by tenant (Open kinds quota optimism) answer = named_if_opened tenant answer
opened_by tenant _ answer = []

-- the tenants whose opening was accepted, in order
abbrev pub opened : List Entry → List (List ℕ)
opened history = flat_map (λ e. opened_by (addressed e.step).0 (addressed e.step).1 e.reply) history

-- ---- the log

-- what the store said during a step of the tenant is honest, where it took these records then: a tenant that is not
-- open asks nothing of it
abbrev pub IsHonestAt : {S : Type 0} → Meaning S → List ℕ → Option World → TenantStep → Said → List Record → Type 0
IsHonestAt M tenant None step said grown = IsQuiet said grown
IsHonestAt M tenant (Some w) step said grown = IsHonest M tenant w step said grown

-- the same of an entry, where these came before it
abbrev pub IsHonestAfter : {S : Type 0} → Meaning S → List Entry → Entry → List Record → Type 0
IsHonestAfter M before e grown =
    IsHonestAt M (addressed e.step).0 (world_of M (addressed e.step).0 before) (addressed e.step).1 e.said grown

-- where other entries came before, the store took these records during these entries, those of each in turn, and what
-- it said during each is honest
abbrev pub RecordedAfter : {S : Type 0} → Meaning S → List Entry → List Entry → List Record → Type 0
RecordedAfter M before [] records = records ≡ []
RecordedAfter M before (e ∷ entries) records =
    (grown : List Record) × (rest : List Record)
    × (records ≡ grown ++ rest) × IsHonestAfter M before e grown × RecordedAfter M (before ++ e ∷ []) entries rest

-- the store took these records during this history, and was honest throughout
abbrev pub IsRecorded : {S : Type 0} → Meaning S → List Entry → List Record → Type 0
IsRecorded M history records = RecordedAfter M [] history records

-- the log has what is left of the records that the store took during this history, honestly: in each place its record,
-- or none where it was forgotten
abbrev pub IsRecordedIn : {S : Type 0} → Meaning S → List Entry → List (Option Record) → Type 0
IsRecordedIn M history records = (whole : List Record) × IsRecorded M history whole × IsLeftOf records whole

-- ---- one step

-- the tenants and the log of a book: what is kept under each name, the names in the order of opening, and the log
pub record Holding (K : Type 0) : Type 0 where
  pub at : List ℕ → Option K
  pub names : List (List ℕ)
  pub log : Logged

-- a map of tenants, with the log
abbrev pub holding : {K X : Type 0} → IndexMap (List ℕ) K X → Logged → Holding K
holding tenants log = record { at = get bytes_eq tenants; names = keys tenants; log = log }

-- the step of a tenant that may be unopened has this reply by the definitions, and what is kept stands for the world
-- after it
abbrev pub StepsAt : {S : Type 0} → Meaning S → List ℕ → Option World → Option (TenantState S) → TenantStep → Said
    → Reply → List (Option Record) → Type 0
StepsAt M tenant w k step said answer records =
    (z : Option World)
    × (step_alone M w (record { step = step; said = said }) ≡ record { reply = answer; world = z })
    × StandsAt M tenant k z records

-- The log grew by what the store took during a step of the tenant, honestly (it may have forgotten others). The device
-- is said to have failed only where it did, and the count of its failures never falls.
-- Where it isn't said to have failed the count is what it was, and else it rose by one at most: a call that failed
-- isn't made again.
pub record LogsAt {S : Type 0} (M : Meaning S) (tenant : List ℕ) (w : Option World) (step : TenantStep) (said : Said)
    (before after : Logged) : Type 0 where
  pub honest : (grown : List Record) × Grows before.records grown after.records × IsHonestAt M tenant w step said grown
  pub device : said.end ≡ Device → HasRisen before.failures after.failures
  pub up : before.failures ≤ after.failures
  pub steady : (said.end ≡ Device → ⊥) → after.failures ≡ before.failures
  pub once : after.failures ≤ before.failures + 1

-- the step of a tenant that may be unopened was done
pub record DidAt {S : Type 0} (M : Meaning S) (tenant : List ℕ) (w : Option World) (step : TenantStep) (said : Said)
    (answer : Reply) (before after : Holding (TenantState S)) : Type 0 where
  pub steps : StepsAt M tenant w (after.at tenant) step said answer after.log.records
  pub keeps : KeepsOnAt M w (before.at tenant) (record { step = step; said = said }) (after.at tenant)
  pub just : KeepsJustAt M tenant w (before.at tenant) (record { step = step; said = said }) before.log.records
      after.log.records
  pub logs : LogsAt M tenant w step said before.log after.log
  pub order : after.names ≡ before.names ++ opened_by tenant step answer

-- what any other tenant stands for stays, where the log's records change so
abbrev pub KeepsOthers : {S : Type 0} → Meaning S → List ℕ → List (Option Record) → List (Option Record) → Type 0
KeepsOthers {S = S} M tenant before after =
    (k : Option (TenantState S)) (w : Option World) (other : List ℕ)
    → bytes_eq other tenant ≡ false → StandsAt M other k w before → StandsAt M other k w after

-- the step of the tenant of this name was done: whichever world the tenant stood for, this is the reply and what is
-- left, and every other tenant is as it was and stands for what it did
pub record IsAnsweredAt {S : Type 0} (M : Meaning S) (tenant : List ℕ) (step : TenantStep) (said : Said)
    (answer : Reply) (before after : Holding (TenantState S)) : Type 0 where
  pub did : (w : Option World)
      → StandsAt M tenant (before.at tenant) w before.log.records → DidAt M tenant w step said answer before after
  pub others : (other : List ℕ) → bytes_eq other tenant ≡ false → after.at other ≡ before.at other
  pub others_stand : KeepsOthers M tenant before.log.records after.log.records
  pub others_live : OthersLive tenant before.log.records after.log.records

-- so was the step, of the tenant that it names
abbrev pub IsAnswered : {S : Type 0} → Meaning S → Step → Said → Reply → Holding (TenantState S)
    → Holding (TenantState S) → Type 0
IsAnswered M step said answer before after =
    IsAnsweredAt M (addressed step).0 (addressed step).1 said answer before after

-- the tenants and the log's records are as they were, and so is the count of the device's failures
pub record HoldsAsBefore {K : Type 0} (before after : Holding K) : Type 0 where
  pub tenants : (tenant : List ℕ) → after.at tenant ≡ before.at tenant
  pub order : after.names ≡ before.names
  pub records : after.log.records ≡ before.log.records
  pub up : before.log.failures ≤ after.log.failures
  pub failures : after.log.failures ≡ before.log.failures

-- ---- the whole book

-- the tenants and the log's records are what the history makes of them, and of their past the tenants keep what the
-- rules leave; the log has as many live records as they leave, and each other place is empty
pub record IsReplay {S : Type 0} (M : Meaning S) (book : Holding (TenantState S)) (history : List Entry) : Type 0 where
  pub stands : (tenant : List ℕ) → StandsAt M tenant (book.at tenant) (world_of M tenant history) book.log.records
  pub keeps : (tenant : List ℕ) → KeepsAt (book.at tenant) (keeping_after M tenant history)
  pub just : (tenant : List ℕ) → HasJustAt M tenant (keeping_after M tenant history) book.log.records
  pub order : book.names ≡ opened history
  pub legal : IsLegal M history
  pub recorded : IsRecordedIn M history book.log.records
  pub device : CountsDevice history book.log.failures

-- Where an entry was added, what the store said during its step is honest, where the log grew by these records (it may
-- have forgotten others).
abbrev pub IsSaidHonestly : {S : Type 0} → Meaning S → Ledger → Ledger → Type 0
IsSaidHonestly M before after =
    (e : Entry) → after.history ≡ before.history ++ e ∷ []
    → (grown : List Record) × Grows before.log.records grown after.log.records × IsHonestAfter M before.history e grown

-- the steps were entered in order, with these replies
abbrev pub Ran : Ledger → List Step → List Reply → Ledger → Type 0
Ran before [] [] after = after ≡ before
Ran before [] (r ∷ replies) after = ⊥
Ran before (s ∷ steps) [] after = ⊥
Ran before (s ∷ steps) (r ∷ replies) after =
    (mid : Ledger) × IsEntered before Caller s r mid × Ran mid steps replies after

-- legal histories with the same pairs of a tenant have the same replies to it, and leave it with the same world
abbrev pub IsIsolated : {S : Type 0} → Meaning S → Type 0
IsIsolated M =
    (tenant : List ℕ) (one other : List Entry) → IsLegal M one → IsLegal M other
    → own tenant (pairs one) ≡ own tenant (pairs other)
    → (replies_to tenant one ≡ replies_to tenant other) × (world_of M tenant one ≡ world_of M tenant other)

-- Which books a host stands for, and how a step goes on from each of them.
use Rattle.std.specs.Prelude.{◌≡◌, ℕ, List, None, Option, Some, bytes_eq, false}
use Rattle.std.specs.Map.{keys_of, lookup}
use Rattle.handler.specs.Inputs.{Input}
use Rattle.model.specs.Handler.{Meaning}
use Rattle.model.specs.declared.replies.Entry.{Entry}
use Rattle.model.specs.declared.replies.Reply.{Reply}
use Rattle.model.specs.declared.replies.Who.{Who}
use Rattle.model.specs.declared.steps.Step.{Step}
use Rattle.model.specs.declared.steps.TenantStep.{TenantStep}
use Rattle.model.specs.declared.steps.TenantStep.TheVariants.{Release}
use Rattle.shared_log.specs.Logged.{Logged}
use Rattle.tenant.specs.Stands.{KeepsNoText, KeepsNoTextBut, KeepsTexts, TenantState}
use Rattle.book.specs.declared.committed.Committed.{Committed}
use Rattle.book.specs.Commits.{Commits}
use Rattle.book.specs.Entries.{IsEntered, Ledger}
use Rattle.book.specs.History.{Holding, IsReplay, IsSaidHonestly}

-- what a host is seen as: the tenants under their names, in the order of opening, and the log of all of them
pub record Hosted (K : Type 0) : Type 0 where
  pub entries : List (List ℕ × K)
  pub log : Logged

-- a host, where the units have such states
abbrev pub HostState : Type 0 → Type 0
HostState S = Hosted (TenantState S)

-- what it holds
abbrev pub held_by : {K : Type 0} → Hosted K → Holding K
held_by host = record { at = λ t. lookup (bytes_eq t) host.entries; names = keys_of host.entries; log = host.log }

-- it is the replay of this history
abbrev pub HostReplays : {S : Type 0} → Meaning S → Hosted (TenantState S) → List Entry → Type 0
HostReplays M host history = IsReplay M (held_by host) history

-- The host is the replay of this book's history, and has its log. It stores no history, so it may stand for many.
pub record IsHostOf {S : Type 0} (M : Meaning S) (host : Hosted (TenantState S)) (book : Ledger) : Type 0 where
  pub replay : HostReplays M host book.history
  pub log : book.log ≡ host.log

-- under each name no unit gave up a text that it released
abbrev pub KeepTexts : {S : Type 0} → (List ℕ → Option (TenantState S)) → Type 0
KeepTexts {S} at = (name : List ℕ) (k : TenantState S) → at name ≡ Some k → KeepsTexts k

-- under each name no unit keeps a text that it released
abbrev pub KeepNoTexts : {S : Type 0} → (List ℕ → Option (TenantState S)) → Type 0
KeepNoTexts {S} at = (name : List ℕ) (k : TenantState S) → at name ≡ Some k → KeepsNoText k

-- A unit that keeps texts is the one that this step of the tenant of this name released.
pub record KeepNoTextsBut {S : Type 0} (name : List ℕ) (step : TenantStep)
    (at : List ℕ → Option (TenantState S)) : Type 0 where
  pub own : (k : TenantState S) → at name ≡ Some k → KeepsNoTextBut step k
  pub others : (other : List ℕ) (k : TenantState S)
      → bytes_eq other name ≡ false → at other ≡ Some k → KeepsNoText k

-- the unit that a step releases, if it is a release
abbrev pub Releases : TenantStep → Option ℕ → Type 0
Releases step None = (unit : ℕ) → step ≡ Release unit → ⊥
Releases step (Some unit) = step ≡ Release unit

-- A book's host is the replay of its history, and has all texts that were released.
pub record IsBook {S : Type 0} (M : Meaning S) (host : Hosted (TenantState S)) (history : List Entry) : Type 0 where
  pub replay : HostReplays M host history
  pub texts : KeepTexts (held_by host).at

-- whatever history the first is the replay of, the second is so too
abbrev pub ReplaysAsWell : {S : Type 0} → Meaning S → Hosted (TenantState S) → Hosted (TenantState S) → Type 0
ReplaysAsWell M old new = (history : List Entry) → HostReplays M old history → HostReplays M new history

-- Of each book that the first stood for a book became so for which the second stands.
abbrev pub Carries : {A : Type 0} → (A → Ledger → Type 0) → (Ledger → Ledger → Type 0) → A → A → Type 0
Carries stands Becomes old new =
    (before : Ledger) → stands old before → (after : Ledger) × stands new after × Becomes before after

-- a step was entered, or there was no memory for it, and what the store said during it is honest
abbrev pub EntersHonestly : {S : Type 0} → Meaning S → Who → Step → Reply → Ledger → Ledger → Type 0
EntersHonestly M who step reply before after = IsEntered before who step reply after × IsSaidHonestly M before after

-- the same of a step whose turn was worked elsewhere
abbrev pub CommitsHonestly : {S : Type 0} → Meaning S → Who → Step → Input S → Committed → Ledger → Ledger → Type 0
CommitsHonestly M who step input committed before after =
    Commits M before who step input committed after × IsSaidHonestly M before after

-- What two lists of steps have in common that agree on a tenant's own steps.
use Rattle.std.specs.Prelude.{◌≡◌, ℕ, List, [], map, All}
use Rattle.std.specs.List.{filter}
use Rattle.model.specs.Handler.{Meaning}
use Rattle.model.specs.History.{names, own, pairs}
use Rattle.model.specs.declared.refusals.Refusal.{Refusal}
use Rattle.model.specs.declared.refusals.Refusal.TheVariants.{Memory}
use Rattle.model.specs.declared.replies.Entry.{Entry}
use Rattle.model.specs.declared.replies.Reply.{Reply}
use Rattle.model.specs.declared.replies.Reply.TheVariants.{Refused, Stopped}
use Rattle.model.specs.declared.steps.Step.{Step}
use Rattle.book.specs.Certificates.{AreOne}
use Rattle.book.specs.Entries.{Ledger}
use Rattle.book.specs.History.{Ran}
use Rattle.journal.specs.GoingOn.{IsBook, IsPromise}

-- the steps of a list that name the tenant, in order
abbrev pub own_steps : List ℕ → List Step → List Step
own_steps tenant steps = filter (names tenant) steps

-- a new book did these steps in order, and gave these replies, which tell of no memory that was missing and of no
-- device that failed
pub record IsRunOf {S : Type 0} (M : Meaning S) (steps : List Step) (replies : List Reply) (after : Ledger)
    : Type 0 where
  pub start : Ledger
  pub empty : start.history ≡ []
  pub ran : Ran start steps replies after
  pub book : IsBook M after
  pub promises : All IsPromise replies

-- the history has these steps, with these replies, and no other
pub record IsWholly (given : List Step) (answers : List Reply) (history : List Entry) : Type 0 where
  pub steps : map (λ e. e.step) history ≡ given
  pub replies : map (λ e. e.reply) history ≡ answers

-- the headline, of lists of steps
abbrev pub HeadlineOfLists : {S : Type 0} → Meaning S → Type 0
HeadlineOfLists M =
    (tenant : List ℕ) (steps steps' : List Step) (replies replies' : List Reply) (one other : Ledger)
    → IsRunOf M steps replies one → IsRunOf M steps' replies' other
    → own_steps tenant steps ≡ own_steps tenant steps'
    → IsWholly steps replies one.history × IsWholly steps' replies' other.history
    × AreOne M tenant one.history other.history

-- ---- where a device may fail

abbrev pub IsNotMemory : Refusal → Type 0
IsNotMemory Memory = ⊥
IsNotMemory _ = Unit {0}

-- a reply that tells of no memory that was missing; it may tell of a device that failed
abbrev pub FoundMemory : Reply → Type 0
FoundMemory (Stopped count refusal) = IsNotMemory refusal
FoundMemory (Refused refusal) = IsNotMemory refusal
FoundMemory _ = Unit {0}

-- a new book did these steps in order, and gave these replies, which tell of no memory that was missing
pub record IsRunWithMemory {S : Type 0} (M : Meaning S) (steps : List Step) (replies : List Reply) (after : Ledger)
    : Type 0 where
  pub start : Ledger
  pub empty : start.history ≡ []
  pub ran : Ran start steps replies after
  pub book : IsBook M after
  pub memory : All FoundMemory replies

-- the headline, of lists of steps and of what the store said to a tenant's own
abbrev pub HeadlineOfAnswers : {S : Type 0} → Meaning S → Type 0
HeadlineOfAnswers M =
    (tenant : List ℕ) (steps steps' : List Step) (replies replies' : List Reply) (one other : Ledger)
    → IsRunWithMemory M steps replies one → IsRunWithMemory M steps' replies' other
    → own tenant (pairs one.history) ≡ own tenant (pairs other.history)
    → IsWholly steps replies one.history × IsWholly steps' replies' other.history
    × AreOne M tenant one.history other.history

-- How a step is entered in the history of a book.
use Rattle.std.specs.Prelude.{◌≡◌, ◌≢◌, ◌⊎◌, ◌≤◌, ◌+◌, ◌-◌, ◌^◌, ℕ, List, [], ◌∷◌, ◌++◌, length, Bool, true}
use Rattle.std.specs.Prelude.{false}
use Rattle.std.specs.List.{filter}
use Rattle.model.specs.declared.refusals.Refusal.TheVariants.{Memory}
use Rattle.model.specs.declared.replies.Entry.{Entry}
use Rattle.model.specs.declared.replies.End.TheVariants.{Device}
use Rattle.model.specs.declared.replies.Reply.{Reply}
use Rattle.model.specs.declared.replies.Reply.TheVariants.{Stopped, Refused}
use Rattle.model.specs.declared.replies.Said.{Said}
use Rattle.model.specs.declared.replies.Who.{Who}
use Rattle.model.specs.declared.steps.Step.{Step}
use Rattle.model.specs.declared.steps.Step.TheVariants.{Open, Join, Post, Deliver, Flush, Checkpoint, Kill, Restart}
use Rattle.model.specs.declared.steps.Step.TheVariants.{Notice, Release, Status}
use Rattle.model.specs.declared.steps.TenantStep.{TenantStep}
use Rattle.model.specs.declared.steps.TenantStep.TheVariants.{Flush as FlushOwn}
use Rattle.model.specs.Failures.{HasRisen}
use Rattle.model.specs.Steps.{is_device}
use Rattle.shared_log.specs.Logged.{Logged}

-- what a book is seen as: its history, and the log of all tenants
pub record Ledger : Type 0 where
  pub history : List Entry
  pub log : Logged

-- the reply to a step for which there was no memory
abbrev pub memory_reply : Step → Reply
memory_reply (Open tenant kinds quota optimism) = Refused Memory
memory_reply (Join tenant kind) = Refused Memory
memory_reply (Post unit number tenant text) = Refused Memory
memory_reply (Deliver tenant letter) = Refused Memory
memory_reply (Flush tenant unit) = Stopped 0 Memory
memory_reply (Checkpoint tenant unit) = Refused Memory
memory_reply (Kill tenant unit) = Refused Memory
memory_reply (Restart tenant unit) = Refused Memory
memory_reply (Notice tenant unit) = Refused Memory
memory_reply (Release tenant unit) = Refused Memory
memory_reply (Status tenant unit) = Refused Memory

-- that to a tenant's own step
abbrev pub own_memory_reply : TenantStep → Reply
own_memory_reply (FlushOwn unit) = Stopped 0 Memory
own_memory_reply _ = Refused Memory

-- that to a flush, or to another step
abbrev pub memory_reply_to : Bool → Reply
memory_reply_to true = Stopped 0 Memory
memory_reply_to false = Refused Memory

-- The step was entered at the end with this reply, which doesn't say that there was no memory for it. The device is
-- said to have failed only where it did, and the count of its failures never falls.
-- Where it isn't said to have failed the count is what it was, and else it rose by one at most: a call that failed
-- isn't made again.
abbrev pub IsAdded : Ledger → Who → Step → Reply → Ledger → Type 0
IsAdded before who step answer after =
    (said : Said)
    × (after.history ≡ before.history ++ record { who = who; step = step; said = said; reply = answer } ∷ [])
    × (said.end ≡ Device → HasRisen before.log.failures after.log.failures)
    × (before.log.failures ≤ after.log.failures)
    × (answer ≢ memory_reply step)
    × (said.end ≢ Device → after.log.failures ≡ before.log.failures)
    × (after.log.failures ≤ before.log.failures + 1)

-- there was no memory for the step, and nothing changed: no call of the device failed
abbrev pub IsForgone : Ledger → Step → Reply → Ledger → Type 0
IsForgone before step answer after =
    (answer ≡ memory_reply step) × (after.history ≡ before.history) × (after.log.records ≡ before.log.records)
    × (before.log.failures ≤ after.log.failures) × (after.log.failures ≡ before.log.failures)

-- one of the two
abbrev pub IsEntered : Ledger → Who → Step → Reply → Ledger → Type 0
IsEntered before who step answer after = IsAdded before who step answer after ⊎ IsForgone before step answer after

-- how many of the entries say that the device failed
abbrev pub devices : List Entry → ℕ
devices history = length (filter (λ e. is_device e.said.end) history)

-- They are no more than the failures that were counted, or that count is as great as it can be.
abbrev pub CountsDevice : List Entry → ℕ → Type 0
CountsDevice history failures = (devices history ≤ failures) ⊎ (2 ^ 64 - 1 ≤ failures)

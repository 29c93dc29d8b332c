-- How a step comes out whose turn was worked elsewhere.
use Rattle.std.specs.Prelude.{◌≡◌, ◌⊎◌, List, Option, Some, None}
use Rattle.handler.specs.Inputs.{Input}
use Rattle.model.specs.Addresses.{addressed}
use Rattle.model.specs.Handler.{Meaning}
use Rattle.model.specs.World.{World}
use Rattle.model.specs.declared.replies.Entry.{Entry}
use Rattle.model.specs.declared.replies.Who.{Who}
use Rattle.model.specs.declared.steps.Step.{Step}
use Rattle.model.specs.declared.steps.TenantStep.{TenantStep}
use Rattle.tenant.specs.Needs.{IsFresh, needs}
use Rattle.book.specs.Entries.{Ledger, IsAdded, IsForgone}
use Rattle.book.specs.History.{world_of}
use Rattle.book.specs.declared.committed.Committed.{Committed}
use Rattle.book.specs.declared.committed.Committed.TheVariants.{Stale, Reply}

-- the input of the turn that a step of a tenant that may be unopened needs, if it needs one
abbrev pub needs_at : {S : Type 0} → Meaning S → Option World → TenantStep → Option (Input S)
needs_at M None step = None
needs_at M (Some w) step = needs M w step

-- the input of the turn that the step now needs, after these entries
abbrev pub needed : {S : Type 0} → Meaning S → List Entry → Step → Option (Input S)
needed M history step = needs_at M (world_of M (addressed step).0 history) (addressed step).1

-- nothing was changed
pub record IsUntouched (before after : Ledger) : Type 0 where
  pub history : after.history ≡ before.history
  pub log : after.log ≡ before.log

-- The step is given back, with nothing changed, only where it now needs a turn of another input. It is entered only
-- where it does not, or there was no memory for it.
abbrev pub Commits : {S : Type 0} → Meaning S → Ledger → Who → Step → Input S → Committed → Ledger → Type 0
Commits M before who step input (Stale s) after =
    (s ≡ step) × IsUntouched before after × ¬ IsFresh (needed M before.history step) input
Commits M before who step input (Reply answer) after =
    (IsAdded before who step answer after × IsFresh (needed M before.history step) input)
    ⊎ IsForgone before step answer after

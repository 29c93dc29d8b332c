-- What is told of all that a unit released.
use Rattle.std.specs.Prelude.{◌≡◌, ℕ, List, [], ◌∷◌, ◌++◌, ◌==◌, cond, Option, Some, None, flat_map}
use Rattle.model.specs.Addresses.{addressed}
use Rattle.model.specs.Handler.{Meaning}
use Rattle.model.specs.History.{IsLegal, names}
use Rattle.model.specs.declared.replies.Reply.{Reply}
use Rattle.model.specs.declared.steps.Step.{Step}
use Rattle.model.specs.declared.steps.TenantStep.{TenantStep}
use Rattle.model.specs.declared.steps.TenantStep.TheVariants.{Release}
use Rattle.book.specs.Entries.{Ledger}
use Rattle.book.specs.History.{released_at, world_of}
use Rattle.book.specs.Standing.{HostReplays, HostState, IsHostOf}
use Rattle.lines.specs.Serving.{line_step}
use Rattle.driver.specs.Driving.{BookDrives, HostDrives, Round, outputs_of}

-- the texts that left this unit by a step of its tenant
abbrev pub left_by : ℕ → TenantStep → Reply → List (List ℕ)
left_by unit (Release u) reply = cond (u == unit) (outputs_of reply) []
left_by unit _ reply = []

-- by a step of any tenant
abbrev pub left_from : List ℕ → ℕ → Step × Reply → List (List ℕ)
left_from tenant unit s = cond (names tenant s.0) (left_by unit (addressed s.0).1 s.1) []

-- by the step of a line
abbrev pub left_at : List ℕ → ℕ → Option Step → Reply → List (List ℕ)
left_at tenant unit None reply = []
left_at tenant unit (Some step) reply = left_from tenant unit (step, reply)

-- the outputs of a unit that were told: those in the replies to its own `release` lines, and those in output lines
abbrev pub told : List ℕ → ℕ → List (List ℕ) → List Round → List (List ℕ)
told tenant unit [] rounds = []
told tenant unit (line ∷ lines) [] = []
told tenant unit (line ∷ lines) (round ∷ rounds) =
    (left_at tenant unit (line_step line) round.reply ++ flat_map (left_from tenant unit) round.steps)
    ++ told tenant unit lines rounds

-- what was released, where the unit is there
abbrev pub texts_in : Option (List (List ℕ)) → List (List ℕ)
texts_in None = []
texts_in (Some texts) = texts

-- a host stands for a book in which each unit released what was told
pub record TellsReleased {S : Type 0} (M : Meaning S) (lines : List (List ℕ)) (rounds : List Round) (host : HostState S)
    (book : Ledger) : Type 0 where
  pub stands : IsHostOf M host book
  pub legal : IsLegal M book.history
  pub outputs : (tenant : List ℕ) (unit : ℕ)
      → texts_in (released_at (world_of M tenant book.history) unit) ≡ told tenant unit lines rounds

-- so it is of each new host that was driven
abbrev pub ReleasedIsTold : {S : Type 0} → Meaning S → Type 0
ReleasedIsTold {S} M =
    (lines : List (List ℕ)) (rounds : List Round) (old new : HostState S)
    → HostReplays M old [] → HostDrives M lines old rounds new
    → (book : Ledger) × TellsReleased M lines rounds new book

-- and so it is of each new book that was driven
abbrev pub BookReleasedIsTold : {S : Type 0} → Meaning S → Type 0
BookReleasedIsTold M =
    (lines : List (List ℕ)) (rounds : List Round) (old new : Ledger)
    → old.history ≡ [] → BookDrives lines old rounds new → IsLegal M new.history
    → (tenant : List ℕ) (unit : ℕ)
    → texts_in (released_at (world_of M tenant new.history) unit) ≡ told tenant unit lines rounds

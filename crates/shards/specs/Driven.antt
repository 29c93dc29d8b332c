-- What several hosts that are driven together do, and what a run of them is.
use Rattle.std.specs.Prelude.{◌≡◌, ◌<◌, ℕ, List, [], length, Some, slice_get}
use Rattle.model.specs.Handler.{Meaning}
use Rattle.model.specs.History.{IsLegal}
use Rattle.book.specs.Entries.{Ledger}
use Rattle.book.specs.History.{IsRecordedIn, released_at, world_of}
use Rattle.book.specs.Standing.{Carries, HostReplays, HostState}
use Rattle.dealing.specs.Dealing.{AreShardsOf}
use Rattle.driver.specs.Driving.{BookDrives, Round}
use Rattle.driver.specs.Telling.{texts_in, told}

-- By hosts together: whichever book they stood for, these lines have these rounds by that book, and they stand for it
-- then.
abbrev pub ShardsDrive : {S : Type 0} → Meaning S → List (List ℕ) → List (HostState S) → List Round
    → List (HostState S) → Type 0
ShardsDrive M lines old rounds new =
    Carries (AreShardsOf M) (λ before after. BookDrives lines before rounds after) old new

-- A run of new hosts, as a whole: there is a book that began with an empty history and was driven by the lines with
-- these rounds; its history is legal, what the stores said in it is honest, the hosts stand for it, and each unit
-- released in it what was told.
pub record DrivenAs {S : Type 0} (M : Meaning S)
    (lines : List (List ℕ)) (rounds : List Round) (hosts : List (HostState S))
    (new : Ledger) : Type 0 where
  pub start : Ledger
  pub empty : start.history ≡ []
  pub driven : BookDrives lines start rounds new
  pub legal : IsLegal M new.history
  pub recorded : IsRecordedIn M new.history new.log.records
  pub stand : AreShardsOf M hosts new
  pub outputs : (tenant : List ℕ) (unit : ℕ)
      → texts_in (released_at (world_of M tenant new.history) unit) ≡ told tenant unit lines rounds

-- new hosts, one at least, that were driven together run as some book
abbrev pub DrivenRun : {S : Type 0} → Meaning S → Type 0
DrivenRun {S} M =
    (lines : List (List ℕ)) (rounds : List Round) (old new : List (HostState S))
    → 0 < length old → ((i : ℕ) (host : HostState S) → slice_get old i ≡ Some host → HostReplays M host [])
    → ShardsDrive M lines old rounds new
    → (book : Ledger) × DrivenAs M lines rounds new book

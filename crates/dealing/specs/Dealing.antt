-- How tenants are dealt to hosts, and which book hosts stand for together.
use Rattle.std.specs.Prelude.{◌≡◌, ◌<◌, ◌+◌, ◌*◌, ◌-◌, ◌%◌, ◌^◌, ◌==◌, ℕ, List, [], ◌∷◌, length, min, Some, slice_get}
use Rattle.std.specs.Prelude.{slice_set}
use Rattle.std.specs.List.{filter}
use Rattle.model.specs.Addresses.{addressed}
use Rattle.model.specs.Handler.{Meaning}
use Rattle.model.specs.History.{IsLegal}
use Rattle.model.specs.declared.replies.Entry.{Entry}
use Rattle.model.specs.declared.replies.Reply.{Reply}
use Rattle.model.specs.declared.steps.Step.{Step}
use Rattle.book.specs.Entries.{Ledger}
use Rattle.book.specs.History.{IsRecordedIn}
use Rattle.book.specs.Standing.{Carries, HostReplays, HostState}
use Rattle.lines.specs.Serving.{HostDoes, Serves, ServesBy}

-- ---- dealing by name

-- a number that follows from some bytes, where this one came before
abbrev pub mixed : ℕ → List ℕ → ℕ
mixed before [] = before
mixed before (byte ∷ bytes) = mixed ((before * 31 + byte) % 65521) bytes

-- which of so many shards a tenant is dealt to, by its name
unfoldable pub dealt : ℕ → List ℕ → ℕ
dealt shards tenant = mixed 0 tenant % shards

-- the tenant that a step names
abbrev pub tenant_of : Step → List ℕ
tenant_of step = (addressed step).0

-- the entries whose tenants are dealt to a shard, in order
abbrev pub part_of : (List ℕ → ℕ) → ℕ → List Entry → List Entry
part_of deal i history = filter (λ e. deal (tenant_of e.step) == i) history

-- ---- hosts that stand for one book

-- how often the devices of all logs failed
abbrev pub failures_in : {S : Type 0} → List (HostState S) → ℕ
failures_in [] = 0
failures_in (host ∷ hosts) = host.log.failures + failures_in hosts

-- These hosts stand for this book together: each is the replay of the part of its history that is dealt to it. The
-- places of the records are those of one log that took what each host's log took. Its device failed as often as theirs,
-- as far as that can be counted.
pub record AreHostsOf {S : Type 0}
    (M : Meaning S) (deal : List ℕ → ℕ) (hosts : List (HostState S)) (book : Ledger) : Type 0 where
  pub below : (tenant : List ℕ) → deal tenant < length hosts
  pub each : (i : ℕ) (host : HostState S)
      → slice_get hosts i ≡ Some host → HostReplays M host (part_of deal i book.history)
  pub recorded : IsRecordedIn M book.history book.log.records
  pub failures : book.log.failures ≡ min (2 ^ 64 - 1) (failures_in hosts)

-- the same, where tenants are dealt by name
abbrev pub AreShardsOf : {S : Type 0} → Meaning S → List (HostState S) → Ledger → Type 0
AreShardsOf M hosts book = AreHostsOf M (dealt (length hosts)) hosts book

-- A step is done by the one that its tenant is dealt to, and the others stay.
pub record OneDoes {A B : Type 0}
    (Does : B → Step → A → B → Type 0) (deal : List ℕ → ℕ) (old : List B) (step : Step) (answer : A)
    (new : List B) : Type 0 where
  pub before : B
  pub after : B
  pub at : slice_get old (deal (tenant_of step)) ≡ Some before
  pub does : Does before step answer after
  pub others : new ≡ slice_set old (deal (tenant_of step)) after

-- a step is done by the host that its tenant is dealt to, and the others stay
abbrev pub HostsDo : {S : Type 0} → Meaning S → (List ℕ → ℕ) → List (HostState S) → Step → Reply → List (HostState S)
    → Type 0
HostsDo M deal old step reply new = OneDoes (HostDoes M) deal old step reply new

-- By hosts together: whichever book they stood for, these lines were given these replies by that book, and they stand
-- for it then.
abbrev pub ShardsServe : {S : Type 0} → Meaning S → List (List ℕ) → List (HostState S) → List Reply → List (HostState S)
    → Type 0
ShardsServe M lines old replies new =
    Carries (AreShardsOf M) (λ before after. Serves lines before replies after) old new

-- ---- laws

-- A run of new hosts, as a whole: there is a book that began with an empty history and was served the lines with these
-- replies; its history is legal, what the stores said in it is honest, and the hosts stand for it.
pub record RunAs {S : Type 0} (M : Meaning S)
    (lines : List (List ℕ)) (replies : List Reply) (hosts : List (HostState S))
    (new : Ledger) : Type 0 where
  pub start : Ledger
  pub empty : start.history ≡ []
  pub served : Serves lines start replies new
  pub legal : IsLegal M new.history
  pub recorded : IsRecordedIn M new.history new.log.records
  pub stand : AreShardsOf M hosts new

-- new hosts, one at least, that were served lines together run as some book
abbrev pub ShardsRun : {S : Type 0} → Meaning S → Type 0
ShardsRun {S} M =
    (lines : List (List ℕ)) (replies : List Reply) (old new : List (HostState S))
    → 0 < length old → ((i : ℕ) (host : HostState S) → slice_get old i ≡ Some host → HostReplays M host [])
    → ShardsServe M lines old replies new
    → (book : Ledger) × RunAs M lines replies new book

-- where each step was done by the host that its tenant is dealt to, the hosts serve the lines
abbrev pub DealtLinesServe : {S : Type 0} → Meaning S → Type 0
DealtLinesServe {S} M =
    (lines : List (List ℕ)) (replies : List Reply) (old new : List (HostState S))
    → length new ≡ length old → ServesBy (HostsDo M (dealt (length old))) lines old replies new
    → ShardsServe M lines old replies new

-- What a run that steps the lines of an earlier run answers.
use Rattle.std.specs.Prelude.{◌≡◌, ℕ, List, [], ◌++◌, length, take, drop, All}
use Rattle.model.specs.Handler.{Meaning}
use Rattle.model.specs.History.{IsLegal}
use Rattle.model.specs.declared.refusals.Refusal.{Refusal}
use Rattle.model.specs.declared.refusals.Refusal.TheVariants.{Store, Memory}
use Rattle.model.specs.declared.replies.Reply.{Reply}
use Rattle.model.specs.declared.replies.Reply.TheVariants.{Stopped, Refused}
use Rattle.book.specs.Entries.{Ledger}
use Rattle.book.specs.History.{IsRecordedIn}
use Rattle.book.specs.Standing.{HostReplays, HostState, IsHostOf}
use Rattle.lines.specs.Serving.{HostServes, Serves}

-- the refusal follows from the steps, and tells of no memory that was missing and of no device that failed
abbrev pub IsOfSteps : Refusal → Type 0
IsOfSteps Store = ⊥
IsOfSteps Memory = ⊥
IsOfSteps _ = Unit {0}

-- a reply that another run can give too
abbrev pub IsPromise : Reply → Type 0
IsPromise (Stopped count refusal) = IsOfSteps refusal
IsPromise (Refused refusal) = IsOfSteps refusal
IsPromise _ = Unit {0}

-- what each book shows of itself: its history is legal, and what the store said in it is honest
pub record IsBook {S : Type 0} (M : Meaning S) (book : Ledger) : Type 0 where
  pub legal : IsLegal M book.history
  pub recorded : IsRecordedIn M book.history book.log.records

-- a new book was served these lines, and gave these promises
pub record IsRun {S : Type 0} (M : Meaning S) (lines : List (List ℕ)) (replies : List Reply)
    (new : Ledger) : Type 0 where
  pub start : Ledger
  pub empty : start.history ≡ []
  pub served : Serves lines start replies new
  pub book : IsBook M new
  pub promises : All IsPromise replies

-- two runs on the same lines give the same promises
abbrev pub Repeats : {S : Type 0} → Meaning S → Type 0
Repeats M =
    (lines : List (List ℕ)) (one other : List Reply) (new new' : Ledger)
    → IsRun M lines one new → IsRun M lines other new' → one ≡ other

-- Lines are cut in two. A new book that steps the first and then the second, and a new book that steps the whole:
-- the replies of the one to the second are those of the other to the whole without those to the first.
abbrev pub GoesOn : {S : Type 0} → Meaning S → Type 0
GoesOn M =
    (first second : List (List ℕ)) (start mid new new' : Ledger) (seen missed all : List Reply)
    → (start.history ≡ []) → Serves first start seen mid → Serves second mid missed new
    → IsBook M new → All IsPromise (seen ++ missed)
    → IsRun M (first ++ second) all new'
    → (missed ≡ drop (length first) all) × (seen ≡ take (length first) all)

-- ---- the same of hosts, which store no history

-- A run of a new host, as a whole: there is a book that began with an empty history and was served the lines with these
-- replies; it is what each book shows of itself, and the host stands for it.
pub record RunsAs {S : Type 0} (M : Meaning S) (lines : List (List ℕ)) (replies : List Reply)
    (host : HostState S) (new : Ledger) : Type 0 where
  pub start : Ledger
  pub empty : start.history ≡ []
  pub served : Serves lines start replies new
  pub book : IsBook M new
  pub stands : IsHostOf M host new

-- each new host that was served lines runs as some book
abbrev pub HostRuns : {S : Type 0} → Meaning S → Type 0
HostRuns {S} M =
    (lines : List (List ℕ)) (replies : List Reply) (old new : HostState S)
    → HostReplays M old [] → HostServes M lines old replies new
    → (book : Ledger) × RunsAs M lines replies new book

-- two new hosts that were served the same lines give the same promises
abbrev pub HostsRepeat : {S : Type 0} → Meaning S → Type 0
HostsRepeat {S} M =
    (lines : List (List ℕ)) (one other : List Reply) (old new old' new' : HostState S)
    → HostReplays M old [] → HostServes M lines old one new → All IsPromise one
    → HostReplays M old' [] → HostServes M lines old' other new' → All IsPromise other
    → one ≡ other

-- lines are cut in two, for a new host that is served the first and then the second, and a new host that is served the
-- whole
abbrev pub HostsGoOn : {S : Type 0} → Meaning S → Type 0
HostsGoOn {S} M =
    (first second : List (List ℕ)) (start mid new start' new' : HostState S) (seen missed all : List Reply)
    → HostReplays M start [] → HostServes M first start seen mid → HostServes M second mid missed new
    → All IsPromise (seen ++ missed)
    → HostReplays M start' [] → HostServes M (first ++ second) start' all new' → All IsPromise all
    → (missed ≡ drop (length first) all) × (seen ≡ take (length first) all)

-- A host's run is that of a book.
use Rattle.std.proofs.Common.{refl, sym, subst, ℕ, List, [], ◌++◌, All}
use Rattle.model.specs.Handler.{Meaning}
use Rattle.model.specs.declared.replies.Reply.{Reply}
use Rattle.shared_log.specs.Logged.{Logged}
use Rattle.book.specs.Entries.{Ledger}
use Rattle.book.specs.History.{IsRecordedIn}
use Rattle.book.specs.Standing.{HostState, IsHostOf}
use Rattle.journal.specs.GoingOn.{HostRuns, HostsGoOn, HostsRepeat, IsBook, IsPromise, IsRun, RunsAs}
use Rattle.journal.proofs.Lines.{goes_on, repeats}

module _ {S : Type 0} (M : Meaning S) where
  -- a book for which a host stands is what each book shows of itself
  is_book : (host : HostState S) (book : Ledger) → IsHostOf M host book → IsBook M book
  is_book host book is = record {
    legal = is.replay.legal;
    recorded = subst (λ (l : Logged). IsRecordedIn M book.history l.records) (sym is.log) is.replay.recorded;
  }

  -- Each new host that was served lines runs as some book.
  pub host_runs : HostRuns M
  host_runs lines replies old new fresh serves =
      let start : Ledger = record { history = []; log = old.log } in
      let ran = serves start (record { replay = fresh; log = refl }) in (
        ran.0,
        record { start = start; empty = refl; served = ran.2; book = is_book new ran.0 ran.1; stands = ran.1 },
      )

  is_run : (lines : List (List ℕ)) (replies : List Reply) (host : HostState S) (new : Ledger)
      → RunsAs M lines replies host new → All IsPromise replies → IsRun M lines replies new
  is_run lines replies host new run promises = record {
    start = run.start;
    empty = run.empty;
    served = run.served;
    book = run.book;
    promises = promises;
  }

  -- Two new hosts that were served the same lines give the same promises.
  pub hosts_repeat : HostsRepeat M
  hosts_repeat lines one other old new old' new' fresh served promises fresh' served' promises' =
      let ran = host_runs lines one old new fresh served in
      let ran' = host_runs lines other old' new' fresh' served' in
      repeats M lines one other
      ran.0 ran'.0 (is_run lines one new ran.0 ran.1 promises) (is_run lines other new' ran'.0 ran'.1 promises')

  -- A new host that is served lines in two parts replies to each as one served the whole does.
  pub hosts_go_on : HostsGoOn M
  hosts_go_on first second start
      mid new start' new' seen missed all fresh served served' promises fresh' whole promises' =
      let ran = host_runs first seen start mid fresh served in
      let went = served' ran.0 ran.1.stands in
      let ran' = host_runs (first ++ second) all start' new' fresh' whole in
      goes_on M first second ran.1.start ran.0 went.0 ran'.0 seen missed all ran.1.empty ran.1.served went.2
      (is_book new went.0 went.1) promises (is_run (first ++ second) all new' ran'.0 ran'.1 promises')

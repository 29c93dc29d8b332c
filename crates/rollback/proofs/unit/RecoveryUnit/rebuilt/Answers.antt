use Rattle.std.proofs.Common.{◌≡◌, sym, ◌∙◌, ap, subst, ℕ, ◌+◌, ◌-◌, List, ◌++◌, length, take, true, arith}
use Rattle.std.specs.Prelude.{Option, option_map}
use Rattle.std.specs.Option.{is_some, option_copied}
use Rattle.model.specs.declared.records.Record.{Record}
use Rattle.checkpoint.specs.declared.snapshot.Snapshot.{Snapshot}
use Rattle.volatile_log.specs.Logs.{records_below}
use Rattle.compact.specs.Compact.{Progress, fitted}
use Rattle.compact.specs.Laws.{replayed}
use Rattle.rollback.specs.Units.{Recovering, IsKept, places, records_to, restored}
use Rattle.rollback.proofs.Cuts.{below_is}
use Rattle.rollback.proofs.Restored.{restored_fold, restored_up}
use Rattle.rollback.proofs.unit.RecoveryUnit.rebuilt.Goals as goal

pub returns-clause-progress : goal.returns-clause-progress
returns-clause-progress g c =
    let from : ℕ =
    (c.self.inside.base + length c.self.inside.intervals.items) - length c.self.inside.volatile.records in
    let all : c.places.result ≡ c.self.inside.base + length c.self.inside.intervals.items =
    c.places.ensures ∙ ap (λ (u : Recovering _). places u) (sym c.self.view_is) in
    let long = c.len.ensures in
    let count = c.count_to-count.ensures in
    let same : c.count_to-count.result ≡ (c.args.target + 1) - from = omega (arith, all, long, count) in
    let volatile : take c.count_to-count.result c.self.inside.volatile.records ≡ records_below
    c.self.inside.volatile.records (c.args.target + 1) = ap (λ k. take k c.self.inside.volatile.records) same
    ∙ sym (below_is c.self.inside.volatile.records from (c.args.target + 1) c.self.invariant.marks) in
    let f : List Record → Snapshot (Progress _) → Progress _ =
    λ records s. replayed g.H.Handler.meaning c.self.inside.seat (fitted c.args.width s.state) records in
    subst (λ (u : Recovering _). c.in_ok-progress.progress
    ≡ (restored g.H.Handler.meaning u c.args.target c.args.width c.args.records.now).progress) c.self.view_is
    (c.in_ok-progress.ensures
    ∙ ap (λ xs. option_map (f (c.args.records.now ++ xs)) (option_copied c.nearest-nearest.result)) volatile
    ∙ ap (λ o. option_map (f (c.args.records.now ++ records_below c.self.inside.volatile.records (c.args.target + 1)))
    o) c.nearest-nearest.ensures.exact)

pub returns-clause-up : goal.returns-clause-up
returns-clause-up g c =
    let kept : IsKept c.args.self.now = subst (λ (u : Recovering _). IsKept u) c.self.view_is c.self.invariant in
    subst (λ (p : Option (Progress _)). is_some p ≡ true) (sym (returns-clause-progress g c))
    (restored_up (λ s. replayed g.H.Handler.meaning c.args.self.now.seat (fitted c.args.width s.state) (records_to
    c.args.self.now c.args.target c.args.records.now)) c.args.self.now c.args.target kept c.requires.base)

pub returns-clause-fold : goal.returns-clause-fold
returns-clause-fold g c = λ from before begins.
    let kept : IsKept c.args.self.now = subst (λ (u : Recovering _). IsKept u) c.self.view_is c.self.invariant in
    returns-clause-progress g c
    ∙ restored_fold g.H.Handler.meaning c.args.self.now c.args.target c.args.width
    from before (records_to c.args.self.now c.args.target c.args.records.now) kept c.requires.base begins

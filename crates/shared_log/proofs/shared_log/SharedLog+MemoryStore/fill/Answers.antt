use Rattle.std.proofs.Common.{refl, ap, subst, sym, ◌∙◌, ◌<◌, List, ℕ, slice_get}
use Rattle.std.specs.Prelude.{All}
use Rattle.shared_log.specs.Index.{listed}
use Rattle.shared_log.specs.Logged.{Logged}
use Rattle.shared_log.proofs.FilledLaws.{fill_lists, fill_count, fill_own, fill_past}
use Rattle.shared_log.proofs.PlacesLaws.{append_kept, kept_lists, list_is}
use Rattle.shared_log.proofs.shared_log.SharedLog+MemoryStore.fill.Goals as goal

pub invariant_of-self : goal.invariant_of-self
invariant_of-self c = (
  fill_count c.fill_in.result c.self.inside.store.records c.fill_in.new.store.records
      c.args.logged c.args.place c.self.inside.count
      c.self.invariant.0 c.fill_in.ensures.ok c.fill_in.ensures.err,
  fill_lists c.fill_in.result (listed c.self.inside.index) (listed c.fill_in.new.index)
      c.self.inside.store.records c.fill_in.new.store.records c.args.logged c.args.place c.self.invariant.1
      c.fill_in.ensures.empty c.fill_in.ensures.past c.fill_in.ensures.own c.fill_in.ensures.others
      c.fill_in.ensures.same c.fill_in.ensures.ok c.fill_in.ensures.err,
)

pub returns-clause-past : goal.returns-clause-past
returns-clause-past c =
    fill_past c.fill_in.result (listed c.self.inside.index) c.self.inside.store.records c.args.self.now
    c.args.logged c.args.place c.self.invariant.1
    (ap (λ (l : Logged). l.records) c.self.view_is) c.fill_in.ensures.past

pub returns-clause-own : goal.returns-clause-own
returns-clause-own c =
    fill_own c.fill_in.result (listed c.self.inside.index) (listed c.fill_in.new.index)
    c.self.inside.store.records c.fill_in.new.store.records c.args.self.now _ c.args.logged c.args.place
    c.self.invariant.1 (invariant_of-self c).1 (ap (λ (l : Logged). l.records) c.self.view_is) refl
    c.fill_in.ensures.own

pub returns-clause-others : goal.returns-clause-others
returns-clause-others c = λ tenant unit other.
    kept_lists (listed c.self.inside.index) (listed c.fill_in.new.index) _ _ c.args.self.now _
    c.self.invariant.1 (invariant_of-self c).1
    (ap (λ (l : Logged). l.records) c.self.view_is) refl tenant unit (c.fill_in.ensures.others tenant unit other)

pub returns-clause-kept : goal.returns-clause-kept
returns-clause-kept c =
    append_kept c.fill_in.result (listed c.self.inside.index) (listed c.fill_in.new.index) _ _ c.args.self.now _
    c.self.invariant.1 (invariant_of-self c).1
    (ap (λ (l : Logged). l.records) c.self.view_is) refl c.fill_in.ensures.same

pub returns-clause-succeeds : goal.returns-clause-succeeds
returns-clause-succeeds c = λ empty below.
    c.fill_in.ensures.succeeds
    (ap (λ (l : Logged). slice_get l.records c.args.place) c.self.view_is ∙ empty)
    (subst (λ (ps : List ℕ). All (λ (p : ℕ). p < c.args.place) ps)
    (sym (list_is (listed c.self.inside.index) _ c.args.self.now c.args.logged.tenant c.args.logged.unit
    c.self.invariant.1 (ap (λ (l : Logged). l.records) c.self.view_is))) below)

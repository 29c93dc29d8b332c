use Rattle.std.proofs.Common.{refl, ◌∙◌, sym, ap, subst, List, ℕ, length, take, drop, ◌<◌}
use Rattle.std.specs.Prelude.{All}
use Rattle.shared_log.specs.Index.{listed}
use Rattle.shared_log.specs.Logged.{Logged, emptied, places_of}
use Rattle.shared_log.proofs.LeftLaws.{emptied_grows, emptied_keeps}
use Rattle.shared_log.proofs.PlacesLaws.{cut_lists, list_is, kept_lists, all_within, emptied_count}
use Rattle.shared_log.proofs.shared_log.SharedLog.cut.Goals as goal

pub cut_in-requires : goal.cut_in-requires
cut_in-requires g c =
    let log = g.S.Store.log c.self.inside.store in
    subst (λ (ps : List ℕ). All (λ p. p < length log) ps)
    (sym (c.self.invariant.1 c.args.tenant.now c.args.unit)) (all_within c.args.tenant.now c.args.unit log)

pub invariant_of-self : goal.invariant_of-self
invariant_of-self g c = (
  emptied_count c.self.inside.count (drop c.args.keep (listed c.self.inside.index c.args.tenant.now c.args.unit))
      _ _ c.self.invariant.0 c.cut_in.ensures.emptied,
  cut_lists (listed c.self.inside.index)
      (listed c.cut_in.new.index) _ _ c.args.tenant.now c.args.unit c.args.keep c.self.invariant.1
      c.cut_in.ensures.emptied c.cut_in.ensures.own c.cut_in.ensures.others,
)

pub returns-clause-own : goal.returns-clause-own
returns-clause-own g c =
    sym (list_is (listed c.cut_in.new.index) _ _ c.args.tenant.now c.args.unit (invariant_of-self g c).1 refl)
    ∙ (c.cut_in.ensures.own
    ∙ ap (take c.args.keep) (list_is (listed c.self.inside.index) _ c.args.self.now
    c.args.tenant.now c.args.unit c.self.invariant.1 (ap (λ (l : Logged). l.records) c.self.view_is)))

pub returns-clause-others : goal.returns-clause-others
returns-clause-others g c = λ tenant unit other.
    kept_lists (listed c.self.inside.index) (listed c.cut_in.new.index) _ _ c.args.self.now _
    c.self.invariant.1 (invariant_of-self g c).1
    (ap (λ (l : Logged). l.records) c.self.view_is) refl tenant unit (c.cut_in.ensures.others tenant unit other)

pub returns-clause-records : goal.returns-clause-records
returns-clause-records g c =
    c.cut_in.ensures.emptied
    ∙ (ap (λ (ps : List ℕ). emptied (drop c.args.keep ps) (g.S.Store.log c.self.inside.store))
    (list_is (listed c.self.inside.index) _ c.args.self.now c.args.tenant.now c.args.unit c.self.invariant.1
    (ap (λ (l : Logged). l.records) c.self.view_is))
    ∙ ap (emptied (drop c.args.keep (places_of c.args.tenant.now c.args.unit c.args.self.now)))
    (ap (λ (l : Logged). l.records) c.self.view_is))

pub returns-clause-grows : goal.returns-clause-grows
returns-clause-grows g c =
    emptied_grows (drop c.args.keep (places_of c.args.tenant.now c.args.unit c.args.self.now))
    c.args.self.now.records _ (returns-clause-records g c)

pub returns-clause-contents : goal.returns-clause-contents
returns-clause-contents g c =
    emptied_keeps (drop c.args.keep (places_of c.args.tenant.now c.args.unit c.args.self.now))
    c.args.self.now.records _ (returns-clause-records g c)

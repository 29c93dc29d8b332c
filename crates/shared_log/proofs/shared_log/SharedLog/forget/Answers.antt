use Rattle.std.proofs.Common.{refl, ◌∙◌, sym, ap, subst, List, ℕ, length, take, drop, ◌<◌}
use Rattle.std.specs.Prelude.{All}
use Rattle.shared_log.specs.Index.{listed}
use Rattle.shared_log.specs.Logged.{Logged, emptied, places_of}
use Rattle.shared_log.proofs.LeftLaws.{emptied_grows, emptied_keeps}
use Rattle.shared_log.proofs.PlacesLaws.{forget_lists, list_is, kept_lists, all_within, emptied_count}
use Rattle.shared_log.proofs.shared_log.SharedLog.forget.Goals as goal

pub forget_in-requires : goal.forget_in-requires
forget_in-requires g c =
    let log = g.S.Store.log c.self.inside.store in
    subst (λ (ps : List ℕ). All (λ p. p < length log) ps)
    (sym (c.self.invariant.1 c.args.tenant.now c.args.unit)) (all_within c.args.tenant.now c.args.unit log)

pub invariant_of-self : goal.invariant_of-self
invariant_of-self g c = (
  emptied_count c.self.inside.count (take c.args.count (listed c.self.inside.index c.args.tenant.now c.args.unit))
      _ _ c.self.invariant.0 c.forget_in.ensures.emptied,
  forget_lists (listed c.self.inside.index)
      (listed c.forget_in.new.index) _ _ c.args.tenant.now c.args.unit c.args.count c.self.invariant.1
      c.forget_in.ensures.emptied c.forget_in.ensures.own c.forget_in.ensures.others,
)

pub returns-clause-own : goal.returns-clause-own
returns-clause-own g c =
    sym (list_is (listed c.forget_in.new.index) _ _ c.args.tenant.now c.args.unit (invariant_of-self g c).1 refl)
    ∙ (c.forget_in.ensures.own
    ∙ ap (drop c.args.count) (list_is (listed c.self.inside.index) _ c.args.self.now
    c.args.tenant.now c.args.unit c.self.invariant.1 (ap (λ (l : Logged). l.records) c.self.view_is)))

pub returns-clause-others : goal.returns-clause-others
returns-clause-others g c = λ tenant unit other.
    kept_lists (listed c.self.inside.index) (listed c.forget_in.new.index) _ _ c.args.self.now _
    c.self.invariant.1 (invariant_of-self g c).1
    (ap (λ (l : Logged). l.records) c.self.view_is) refl tenant unit (c.forget_in.ensures.others tenant unit other)

pub returns-clause-records : goal.returns-clause-records
returns-clause-records g c =
    c.forget_in.ensures.emptied
    ∙ (ap (λ (ps : List ℕ). emptied (take c.args.count ps) (g.S.Store.log c.self.inside.store))
    (list_is (listed c.self.inside.index) _ c.args.self.now c.args.tenant.now c.args.unit c.self.invariant.1
    (ap (λ (l : Logged). l.records) c.self.view_is))
    ∙ ap (emptied (take c.args.count (places_of c.args.tenant.now c.args.unit c.args.self.now)))
    (ap (λ (l : Logged). l.records) c.self.view_is))

pub returns-clause-grows : goal.returns-clause-grows
returns-clause-grows g c =
    emptied_grows (take c.args.count (places_of c.args.tenant.now c.args.unit c.args.self.now))
    c.args.self.now.records _ (returns-clause-records g c)

pub returns-clause-contents : goal.returns-clause-contents
returns-clause-contents g c =
    emptied_keeps (take c.args.count (places_of c.args.tenant.now c.args.unit c.args.self.now))
    c.args.self.now.records _ (returns-clause-records g c)

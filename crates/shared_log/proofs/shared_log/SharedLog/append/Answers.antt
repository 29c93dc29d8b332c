use Rattle.std.proofs.Common.{refl, ap}
use Rattle.shared_log.specs.Index.{listed}
use Rattle.shared_log.specs.Logged.{Logged}
use Rattle.shared_log.proofs.LeftLaws.{append_grows}
use Rattle.shared_log.proofs.PlacesLaws.{append_lists, append_own, append_kept, kept_lists}
use Rattle.shared_log.proofs.shared_log.SharedLog.append.Goals as goal

pub invariant_of-self : goal.invariant_of-self
invariant_of-self g c = (
  c.append_to.ensures.count,
  append_lists c.append_to.result (listed c.self.inside.index)
      (listed c.append_to.new.index) _ _ c.args.logged.now c.self.inside.count c.self.invariant.1 c.self.invariant.0
      c.append_to.ensures.own c.append_to.ensures.others
      c.append_to.ensures.same c.append_to.ensures.ok c.append_to.ensures.err,
)

pub returns-clause-own : goal.returns-clause-own
returns-clause-own g c =
    append_own c.append_to.result (listed c.self.inside.index)
    (listed c.append_to.new.index) _ _ c.args.self.now _ c.args.logged.now c.self.inside.count
    c.self.invariant.1 (invariant_of-self g c).1 c.self.invariant.0
    (ap (λ (l : Logged). l.records) c.self.view_is) refl c.append_to.ensures.own

pub returns-clause-others : goal.returns-clause-others
returns-clause-others g c = λ tenant unit other.
    kept_lists (listed c.self.inside.index) (listed c.append_to.new.index) _ _ c.args.self.now _
    c.self.invariant.1 (invariant_of-self g c).1
    (ap (λ (l : Logged). l.records) c.self.view_is) refl tenant unit (c.append_to.ensures.others tenant unit other)

pub returns-clause-kept : goal.returns-clause-kept
returns-clause-kept g c =
    append_kept c.append_to.result (listed c.self.inside.index) (listed c.append_to.new.index) _ _ c.args.self.now _
    c.self.invariant.1 (invariant_of-self g c).1
    (ap (λ (l : Logged). l.records) c.self.view_is) refl c.append_to.ensures.same

pub returns-clause-grows : goal.returns-clause-grows
returns-clause-grows g c =
    rw (ap (λ (l : Logged). l.records) c.self.view_is) at (append_grows c.append_to.result (g.S.Store.log
    c.self.inside.store) (g.S.Store.log c.append_to.new.store) c.args.logged.now c.append_to.ensures.ok)

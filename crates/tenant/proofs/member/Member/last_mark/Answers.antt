use Rattle.std.proofs.Common.{◌≡◌, sym, ◌∙◌, ap, subst}
use Rattle.depvector.specs.Vectors.{mark_for}
use Rattle.compact.specs.Compact.{Interval}
use Rattle.rollback.specs.Units.{Recovering, IsKept}
use Rattle.rollback_laws.specs.Seen.{IsSeen}
use Rattle.rollback_laws.proofs.Receipts.{last_vectors_are_seen}
use Rattle.tenant.specs.Kept.{Member}
use Rattle.tenant.proofs.member.Member.last_mark.Goals as goal

pub returns : goal.returns
returns g c = λ x kept seen.
    let here : c.self.inside.unit_state ≡ c.args.self.now.unit_state =
    ap (λ (m : Member _). m.unit_state) c.self.view_is in
    let last = last_vectors_are_seen g.H.Handler.meaning c.self.inside.unit_state x (subst
    (λ (r : Recovering _). IsKept r) (sym here) kept) (subst (λ (r : Recovering _). IsSeen r x) (sym here) seen)
    c.last_index-index.result c.last_index-index.ensures.last
    c.interval-interval.result.now c.interval-interval.ensures in
    c.get.ensures ∙ ap (λ v. mark_for v c.args.unit) (ap (λ (i : Interval). i.vector) c.interval.view_is ∙ last)

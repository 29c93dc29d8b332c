use Rattle.std.proofs.Common.{◌≡◌, sym, ◌∙◌, ap, subst, length}
use Rattle.std.proofs.lemmas.Option.{same_Some}
use Rattle.rollback.specs.Units.{Recovering}
use Rattle.unit_steps.specs.Receipts.{IsFrontier, frontier_of}
use Rattle.tenant.specs.Kept.{Member}
use Rattle.tenant.proofs.flush.front_of.Goals as goal

pub returns-in-Some : goal.returns-in-Some
returns-in-Some g c = λ m found front.
    let q : c.unit_state.result.now ≡ m.unit_state = c.unit_state.ensures
    ∙ ap (λ (z : Member _). z.unit_state) (same_Some c.in-Some.member.now m (sym c.in-Some.ensures ∙ found)) in
    c.frontier_after.ensures
    (subst (λ (r : Recovering _). IsFrontier (length c.args.stable_lengths.now) r c.args.frontier) (sym q) front)
    ∙ ap (λ (r : Recovering _). frontier_of c.args.table.now c.args.stable_lengths.now r c.args.frontier) q

pub returns-in-None : goal.returns-in-None
returns-in-None g c = λ m found front. absurd (let h = c.in-None.ensures in cc (h, found))

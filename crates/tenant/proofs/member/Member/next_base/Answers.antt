use Rattle.std.proofs.Common.{◌≡◌, ◌∙◌, ap, ◌+◌, ◌-◌, arith, min}
use Rattle.std.specs.Prelude.{option_map}
use Rattle.checkpoint.specs.Shelves.{nearest_of}
use Rattle.rollback.specs.Units.{Recovering, places}
use Rattle.tenant.specs.Bases.{next_base}
use Rattle.tenant.specs.Kept.{Member}
use Rattle.tenant.proofs.Moving.{next_within}
use Rattle.tenant.proofs.member.Member.next_base.Goals as goal

pub returns-clause-within : goal.returns-clause-within
returns-clause-within g c =
    let r : Recovering g.row.H-State.Denot = c.args.self.now.unit_state in
    let seen : c.self.inside.unit_state ≡ r = ap (λ (m : Member g.row.H-State.Denot). m.unit_state) c.self.view_is in
    let last : c.last_index.result + 1 ≡ places r = c.last_index.ensures.last ∙ ap places seen in
    let low : c.from-last.result ≡ places r - 1 = let a = c.from-last.ensures in omega (arith, a, last) in
    let target = c.min-target.ensures ∙ (λ i. min (c.saturating_sub.ensures i) (low i)) in
    let is : c.restart_index.result ≡ next_base r c.args.frontier =
    c.restart_index.ensures ∙ (λ i. option_map (λ s. s.index) (nearest_of (seen i).shelf (target i))) in
    next_within r c.args.frontier c.last_index.result last c.restart_index.result is

use Rattle.std.proofs.Common.{◌≡◌, sym, ◌∙◌, ap}
use Rattle.tenant.specs.Kept.{TenantState}
use Rattle.unit_steps.specs.Receipts.{post_refused}
use Rattle.tenant.proofs.Posting.{post_asked, post_none, post_refused_first}
use Rattle.tenant.proofs.tenant.Tenant.ask_post.Goals as goal

pub returns-in-None-clause-asked : goal.returns-in-None-clause-asked
returns-in-None-clause-asked g c = λ name live w log s. post_none
    g.H.Handler.meaning name live c.args.self.now w log s c.args.unit c.args.number c.args.text.now c.in-None.ensures

pub returns-in-Some-arrival_refusal-clause-asked : goal.returns-in-Some-arrival_refusal-clause-asked
returns-in-Some-arrival_refusal-clause-asked g c = λ name live w log s.
    let same : post_refused c.args.self.now.quota.volatile
    c.in-Some.member.now.unit_state c.args.number c.args.text.now ≡ c.arrival_refusal.result =
    ((λ i. post_refused (sym (ap (λ (t : TenantState _). t.quota.volatile) c.self.view_is) i) (sym
    c.unit_state.ensures i) (sym c.from.ensures i) c.args.text.now) ∙ sym c.arrival_refusal.ensures.refusal) in
    post_refused_first g.H.Handler.meaning name live c.args.self.now w log s c.args.unit c.args.number c.args.text.now
    c.in-Some.member.now c.in-Some.ensures c.in-Some-arrival_refusal.refusal (same ∙ c.in-Some-arrival_refusal.is)

pub returns-clause-asked : goal.returns-clause-asked
returns-clause-asked g c = λ name live w log s.
    let same : post_refused c.args.self.now.quota.volatile
    c.in-Some.member.now.unit_state c.args.number c.args.text.now ≡ c.arrival_refusal.result =
    ((λ i. post_refused (sym (ap (λ (t : TenantState _). t.quota.volatile) c.self.view_is) i) (sym
    c.unit_state.ensures i) (sym c.from.ensures i) c.args.text.now) ∙ sym c.arrival_refusal.ensures.refusal) in
    post_asked g.H.Handler.meaning name live
    c.args.self.now w log s c.args.unit c.args.number c.args.text.now c.in-Some.member.now c.in-Some.ensures (same
    ∙ c.in-None-arrival_refusal.is) c.ask.result c.ask.ensures.asked c.ask.ensures.down

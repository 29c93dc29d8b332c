use Rattle.std.proofs.Common.{◌≡◌, ◌∙◌, ap, subst, ◌≤◌, ◌++◌, map, take, length}
use Rattle.std.specs.Prelude.{Some, ◌↔◌}
use Rattle.std.proofs.lemmas.Option.{slice_get_within}
use Rattle.model.specs.declared.replies.End.TheVariants.{Whole}
use Rattle.model.specs.declared.steps.TenantStep.TheVariants.{Flush}
use Rattle.model.specs.Steps.{flush_reply}
use Rattle.rollback.specs.Units.{Recovering}
use Rattle.tenant.specs.Kept.{Member}
use Rattle.tenant.proofs.Flushing.{flush_done, flush_refused}
use Rattle.tenant.proofs.Moving.{beside_stands, did_then}
use Rattle.tenant.proofs.Live.{flushed_own}
use Rattle.tenant.proofs.Others.{appended_beside, appended_live, beside_live}
use Rattle.tenant.proofs.Results.{unless_device}
use Rattle.tenant.proofs.Standing.{opened}
use Rattle.std.proofs.Common.{inl, refl}
use Rattle.tenant.proofs.PastKept.{flush_keeps, refused_keeps}
use Rattle.tenant.proofs.tenant.Tenant.flush.Goals as goal

pub returns-in-Err-clause-did : goal.returns-in-Err-clause-did
returns-in-Err-clause-did g c = λ w s.
    rw (c.refused.ensures.reply, c.refused.ensures.plain) (flush_refused g.H.Handler.meaning c.args.tenant.now
    c.args.self.now w c.args.log.now (opened s) c.args.unit c.in-Err.refusal c.in-Err.ensures.refused)

pub enter_stable-requires-clause-within : goal.enter_stable-requires-clause-within
enter_stable-requires-clause-within g c κs within =
    slice_get_within c.args.self.now.members c.args.unit _ c.in-Ok.ensures.found

pub returns-clause-did : goal.returns-clause-did
returns-clause-did g c = λ w s.
    let m : Member g.row.H-State.Denot = c.in-Ok.member.now in
    let said = c.append_all-said.result in
    let same : c.unit_state.result.now ≡ m.unit_state = c.unit_state.ensures in
    let volatile : c.unit_state.result.now.volatile ≡ m.unit_state.volatile =
    ap (λ (r : Recovering g.row.H-State.Denot). r.volatile) same in
    rw (c.small.ensures, c.flush_reply.ensures.value) (did_then
    g.H.Handler.meaning c.args.tenant.now w c.enter_stable.new.self c.forget_after.new.self (Flush c.args.unit)
    said (flush_reply said.end said.appended) c.args.log.now c.append_all-said.new.log c.forget_after.new.log
    (flush_done g.H.Handler.meaning c.args.tenant.now c.args.self.now w c.args.log.now (opened s)
    c.args.unit m c.in-Ok.ensures.found c.in-Ok.ensures.up c.append_all-said.new.log c.enter_stable.new.self said
    (c.append_all-said.ensures.records ∙ ap (λ vs. c.args.log.now.records ++ map Some (take said.appended vs)) volatile)
    (subst (λ vs. said.appended ≤ length vs) volatile c.append_all-said.ensures.within)
    (subst (λ vs. (said.end ≡ Whole) ↔ (said.appended ≡ length vs)) volatile c.append_all-said.ensures.whole)
    (c.nothing_logged_for_memory.ensures.some c.if-nothing_logged_for_memory.false)
    (c.enter_stable.ensures.makes m c.in-Ok.ensures.found)
    c.append_all-said.ensures.device)
    c.forget_after.ensures.stands c.forget_after.ensures.beside)

pub returns-clause-others : goal.returns-clause-others
returns-clause-others g c = λ k w other differs s.
    beside_stands g.H.Handler.meaning c.args.tenant.now
    other k w c.append_all-said.new.log c.forget_after.new.log c.forget_after.ensures.beside differs
    (appended_beside g.H.Handler.meaning c.args.tenant.now other k w c.args.log.now.records
    c.append_all-said.new.log.records c.unit_state.result.now.volatile c.append_all-said.result.appended
    c.append_all-said.ensures.records c.append_all-said.ensures.own differs s)

pub returns-in-Err-clause-keeps_on : goal.returns-in-Err-clause-keeps_on
returns-in-Err-clause-keeps_on g c =
    refused_keeps g.H.Handler.meaning c.args.tenant.now c.args.self.now c.args.self.now c.args.log.now.records
    (Flush c.args.unit) c.refused.result.said c.refused.result.reply _ c.refused.ensures.reply refl

pub returns-clause-keeps_on : goal.returns-clause-keeps_on
returns-clause-keeps_on g c =
    let m : Member g.row.H-State.Denot = c.in-Ok.member.now in
    let said = c.append_all-said.result in
    let same : c.unit_state.result.now ≡ m.unit_state = c.unit_state.ensures in
    let volatile : c.unit_state.result.now.volatile ≡ m.unit_state.volatile =
    ap (λ (r : Recovering g.row.H-State.Denot). r.volatile) same in
    rw (c.small.ensures) (flush_keeps g.H.Handler.meaning c.args.tenant.now
    c.args.self.now c.enter_stable.new.self c.forget_after.new.self c.args.log.now c.append_all-said.new.log
    c.args.unit m said c.in-Ok.ensures.found (c.enter_stable.ensures.makes m c.in-Ok.ensures.found)
    (λ w s. flush_done g.H.Handler.meaning c.args.tenant.now c.args.self.now w c.args.log.now (opened s)
    c.args.unit m c.in-Ok.ensures.found c.in-Ok.ensures.up c.append_all-said.new.log c.enter_stable.new.self said
    (c.append_all-said.ensures.records ∙ ap (λ vs. c.args.log.now.records ++ map Some (take said.appended vs)) volatile)
    (subst (λ vs. said.appended ≤ length vs) volatile c.append_all-said.ensures.within)
    (subst (λ vs. (said.end ≡ Whole) ↔ (said.appended ≡ length vs)) volatile c.append_all-said.ensures.whole)
    (c.nothing_logged_for_memory.ensures.some c.if-nothing_logged_for_memory.false)
    (c.enter_stable.ensures.makes m c.in-Ok.ensures.found)
    c.append_all-said.ensures.device)
    c.forget_after.ensures.bases c.flush_reply.result c.flush_reply.ensures.value)

pub returns-then-nothing_logged_for_memory-clause-steady : goal.returns-then-nothing_logged_for_memory-clause-steady
returns-then-nothing_logged_for_memory-clause-steady g c =
    let memory = c.nothing_logged_for_memory.ensures.memory c.if-nothing_logged_for_memory.true in
    inl (c.append_all-said.ensures.steady (λ e. absurd (cc (memory, e))))

pub returns-clause-steady : goal.returns-clause-steady
returns-clause-steady g c =
    rw (c.small.ensures) (unless_device c.append_all-said.result.end (λ not. c.forget_after.ensures.beside.failures
    ∙ c.append_all-said.ensures.steady not))

pub returns-clause-just : goal.returns-clause-just
returns-clause-just g c = λ w s has.
    let m : Member g.row.H-State.Denot = c.in-Ok.member.now in
    let said = c.append_all-said.result in
    let same : c.unit_state.result.now ≡ m.unit_state = c.unit_state.ensures in
    let volatile : c.unit_state.result.now.volatile ≡ m.unit_state.volatile =
    ap (λ (r : Recovering g.row.H-State.Denot). r.volatile) same in
    let logged = c.append_all-said.ensures.records
    ∙ ap (λ vs. c.args.log.now.records ++ map Some (take said.appended vs)) volatile in
    let few = subst (λ vs. said.appended ≤ length vs) volatile c.append_all-said.ensures.within in
    let whole = subst (λ vs. (said.end ≡ Whole) ↔ (said.appended ≡ length vs)) volatile
    c.append_all-said.ensures.whole in
    let some = c.nothing_logged_for_memory.ensures.some c.if-nothing_logged_for_memory.false in
    let makes = c.enter_stable.ensures.makes m c.in-Ok.ensures.found in
    let d = flush_done g.H.Handler.meaning c.args.tenant.now c.args.self.now w c.args.log.now (opened s)
    c.args.unit m c.in-Ok.ensures.found c.in-Ok.ensures.up c.append_all-said.new.log c.enter_stable.new.self said
    logged few whole some makes c.append_all-said.ensures.device in
    c.forget_after.ensures.just d.steps.0 d.steps.2
    (flushed_own g.H.Handler.meaning c.args.tenant.now c.args.self.now w c.args.log.now s c.args.unit m
    c.in-Ok.ensures.found c.in-Ok.ensures.up c.append_all-said.new.log c.enter_stable.new.self said logged few whole
    some makes has)

pub returns-clause-others_live : goal.returns-clause-others_live
returns-clause-others_live g c = λ other u differs.
    beside_live c.args.tenant.now c.append_all-said.new.log c.forget_after.new.log c.forget_after.ensures.beside
    other u differs
    ∙ appended_live c.args.tenant.now other c.args.log.now.records c.append_all-said.new.log.records
    c.unit_state.result.now.volatile c.append_all-said.result.appended c.append_all-said.ensures.records
    c.append_all-said.ensures.own differs u

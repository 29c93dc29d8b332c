use Rattle.std.proofs.Common.{◌≡◌, ◌∙◌, ℕ, List, ap, subst, sym}
use Rattle.model.specs.Addresses.{addressed}
use Rattle.model.specs.declared.steps.Step.{Step}
use Rattle.model.specs.declared.steps.TenantStep.{TenantStep}
use Rattle.model.specs.declared.steps.TenantStep.TheVariants.{Kill}
use Rattle.model.proofs.Apart.{parts_are}
use Rattle.book.specs.Entries.{IsAdded, own_memory_reply}
use Rattle.book.specs.Standing.{Carries, EntersHonestly, IsHostOf}
use Rattle.book.proofs.Standing.{adds, apart, carries_on, enters, forgoes}
use Rattle.book.proofs.Wanting.{answer_is}
use Rattle.book.proofs.host.Host.step.Goals as goal

pub returns-in-Ok-clause-entered : goal.returns-in-Ok-clause-entered
returns-in-Ok-clause-entered g c = λ who.
    let M = g.H.Handler.meaning in
    let a = c.in-Ok.answer in
    let step = c.args.step in
    let parts = parts_are _ _ step c.step.view_is in
    let answered = apart M step _ _ a.said a.reply _ _ parts c.in-Ok.ensures.answered in
    rw c.into_reply.ensures
    (carries_on M c.args.self.now
    c.answer_own.new.self c.give_up_after.new.self c.give_up_after.ensures.log c.give_up_after.ensures.replay
    (enters M c.args.self.now c.answer_own.new.self who step a.said a.reply answered))

pub returns-in-Err-clause-entered : goal.returns-in-Err-clause-entered
returns-in-Err-clause-entered g c = λ who.
    let M = g.H.Handler.meaning in
    let step = c.args.step in
    rw (c.memory_reply_to.ensures, ← c.is_flush-flush.ensures)
    (subst (λ r. Carries (IsHostOf M) (EntersHonestly M who step r) c.args.self.now c.answer_own.new.self)
    (answer_is step ∙ ap (λ (p : List ℕ × TenantStep). own_memory_reply p.1) (parts_are _ _ step c.step.view_is))
    (forgoes M c.args.self.now c.answer_own.new.self who step c.in-Err.ensures.err))

pub returns-in-Ok-clause-kill : goal.returns-in-Ok-clause-kill
returns-in-Ok-clause-kill g c = λ who tenant unit kill.
    let M = g.H.Handler.meaning in
    let a = c.in-Ok.answer in
    let step = c.args.step in
    let parts = parts_are _ _ step c.step.view_is in
    let answered = apart M step _ _ a.said a.reply _ _ parts c.in-Ok.ensures.answered in
    rw c.into_reply.ensures
    (carries_on M {Becomes = λ before after. IsAdded before who step a.reply after} c.args.self.now
    c.answer_own.new.self c.give_up_after.new.self c.give_up_after.ensures.log c.give_up_after.ensures.replay
    (adds M c.args.self.now c.answer_own.new.self who step a.said a.reply answered))

pub returns-in-Err-clause-kill : goal.returns-in-Err-clause-kill
returns-in-Err-clause-kill g c = λ who tenant unit kill.
    let parts = parts_are _ _ c.args.step c.step.view_is in
    let own : _ ≡ Kill unit =
    ap (λ (p : List ℕ × TenantStep). p.1) (sym parts) ∙ ap (λ (s : Step). (addressed s).1) kill in
    absurd (let h = c.in-Err.ensures.kill unit own in cc h)

pub returns-in-Ok-clause-none : goal.returns-in-Ok-clause-none
returns-in-Ok-clause-none g c = λ none.
    c.give_up_after.ensures.none _ c.released_unit-released.ensures (c.answer_own.ensures.none none)

pub returns-in-Err-clause-none : goal.returns-in-Err-clause-none
returns-in-Err-clause-none g c = λ none name k there. none name k (sym (c.in-Err.ensures.err.tenants name) ∙ there)

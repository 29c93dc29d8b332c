use Rattle.std.proofs.Common.{◌≡◌, ◌∙◌, sym, subst}
use Rattle.model.specs.Addresses.{addressed}
use Rattle.book.specs.Entries.{IsAdded}
use Rattle.book.specs.Standing.{Carries, IsHostOf}
use Rattle.book.proofs.Standing.{adds, carries_on, commits, forgoes_worked, gives_back}
use Rattle.book.proofs.host.Host.step_with.Goals as goal

pub returns-in-Ok-Some-clause-commits : goal.returns-in-Ok-Some-clause-commits
returns-in-Ok-Some-clause-commits g c = λ who.
    let a = c.in-Ok-Some.answer in
    let is = c.in-Ok-Some.field-0-is in
    rw c.into_reply.ensures
    (carries_on g.H.Handler.meaning c.args.self.now
    c.answer_with.new.self c.give_up_after.new.self c.give_up_after.ensures.log c.give_up_after.ensures.replay
    (commits g.H.Handler.meaning
    c.args.self.now c.answer_with.new.self who c.args.step a.said a.reply c.args.worked.input
    (rw is at c.in-Ok-Some.ensures.answered) (rw is at c.in-Ok-Some.ensures.fresh)))

pub returns-in-Err-clause-commits : goal.returns-in-Err-clause-commits
returns-in-Err-clause-commits g c = λ who.
    rw c.memory_reply.ensures (forgoes_worked g.H.Handler.meaning
    c.args.self.now c.answer_with.new.self who c.args.step c.args.worked.input c.in-Err.ensures.err)

pub returns-in-Ok-None-clause-commits : goal.returns-in-Ok-None-clause-commits
returns-in-Ok-None-clause-commits g c = λ who.
    let is = c.in-Ok-None.field-0-is in
    gives_back g.H.Handler.meaning c.args.self.now c.answer_with.new.self who c.args.step c.args.worked.input
    (rw is at c.in-Ok-None.ensures.stale)
    (rw is at c.in-Ok-None.ensures.stale_log) (rw is at c.in-Ok-None.ensures.fresh)

pub returns-in-Ok-Some-clause-kill : goal.returns-in-Ok-Some-clause-kill
returns-in-Ok-Some-clause-kill g c = λ who tenant unit reply is told.
    let M = g.H.Handler.meaning in
    let a = c.in-Ok-Some.answer in
    let same : a.reply ≡ reply = sym c.into_reply.ensures ∙ (let t = told in cc t) in
    carries_on M {Becomes = λ before after. IsAdded before who c.args.step reply after} c.args.self.now
    c.answer_with.new.self c.give_up_after.new.self c.give_up_after.ensures.log c.give_up_after.ensures.replay
    (subst (λ r. Carries (IsHostOf M) (λ before after. IsAdded before who c.args.step r after)
    c.args.self.now c.answer_with.new.self) same
    (adds M c.args.self.now c.answer_with.new.self who c.args.step a.said a.reply
    (rw c.in-Ok-Some.field-0-is at c.in-Ok-Some.ensures.answered)))

pub returns-in-Err-clause-kill : goal.returns-in-Err-clause-kill
returns-in-Err-clause-kill g c = λ who tenant unit reply is told.
    absurd (let h = c.in-Err.ensures.kill tenant unit is in cc h)

pub returns-in-Ok-None-clause-kill : goal.returns-in-Ok-None-clause-kill
returns-in-Ok-None-clause-kill g c = λ who tenant unit reply is told. absurd (cc told)

pub returns-in-Ok-Some-clause-none : goal.returns-in-Ok-Some-clause-none
returns-in-Ok-Some-clause-none g c = λ none.
    let but = rw (← c.tenant.ensures) at (c.answer_with.ensures.none none) in
    c.give_up_after.ensures.none (addressed c.args.step).1 c.unit_released.ensures but

pub returns-in-Err-clause-none : goal.returns-in-Err-clause-none
returns-in-Err-clause-none g c = λ none name k there. none name k (sym (c.in-Err.ensures.err.tenants name) ∙ there)

pub returns-in-Ok-None-clause-none : goal.returns-in-Ok-None-clause-none
returns-in-Ok-None-clause-none g c = λ none name k there.
    let stale = rw c.in-Ok-None.field-0-is at c.in-Ok-None.ensures.stale in
    none name k (sym (stale.tenants name) ∙ there)

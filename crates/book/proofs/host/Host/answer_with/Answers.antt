use Rattle.std.proofs.Common.{bytes_eq, rules}
use Rattle.indexmap.specs.IndexMap.{get, keys}
use Rattle.model.specs.Addresses.{addressed}
use Rattle.book.specs.Standing.{held_by}
use Rattle.book.proofs.Answers.{SaysDevice, SaysDeviceIf, answered_open, answered_unopened, both_ok, both_some, if_ok}
use Rattle.book.proofs.Answers.{if_some, says_some, steady_ok}
use Rattle.book.proofs.Standing.{none_but, none_still}
use Rattle.book.proofs.host.Host.answer_with.Goals as goal

pub returns-in_err-own_step-clause-none : goal.returns-in_err-own_step-clause-none
returns-in_err-own_step-clause-none g c = none_still (held_by c.args.self.now).at _ _

pub returns-in-Some-clause-answered : goal.returns-in-Some-clause-answered
returns-in-Some-clause-answered g c =
    let old = c.self.inside.tenants in
    let new = c.get_mut.follows.lender c.step_with.new.self in
    let r = c.step_with.result in
    let e = c.step_with.ensures in
    rw (← c.self.view_is, ← c.tenant-name.ensures, ← c.in_ok-own_step.ensures.same) (if_ok r
    (λ o h. if_some o
    (λ a s. answered_open g.H.Handler.meaning c.tenant-name.result.now c.in_ok-own_step.own_step a.said a.reply
    c.in-Some.tenant.now c.step_with.new.self (get bytes_eq old) (get bytes_eq new) (keys old) (keys new)
    c.self.inside.log c.step_with.new.log (search rules) (search rules) (search rules) (search rules) s.0 s.1.0
    s.1.1.0 e.others e.others_live e.up s.1.1.1 e.once)
    (both_some _ _ o h.0 (both_some _ _ o h.1.0 (both_some _ _ o h.1.1.0 (says_some SaysDevice o h.1.1.1)))))
    (both_ok _ _ r e.did (both_ok _ _ r e.keeps_on (both_ok _ _ r e.just (steady_ok SaysDeviceIf r e.steady)))))

pub returns-in-Some-clause-texts : goal.returns-in-Some-clause-texts
returns-in-Some-clause-texts g c = rw (← c.self.view_is) (search rules)

pub returns-in-Some-clause-none : goal.returns-in-Some-clause-none
returns-in-Some-clause-none g c =
    rw (← c.self.view_is, ← c.tenant-name.ensures, ← c.in_ok-own_step.ensures.same)
    (none_but (get bytes_eq c.self.inside.tenants) (get bytes_eq (c.get_mut.follows.lender c.step_with.new.self))
    c.tenant-name.result.now c.in_ok-own_step.own_step c.in-Some.tenant.now c.step_with.new.self
    (search rules) (search rules) (search rules) c.step_with.ensures.none)

pub returns-in_err-answer-clause-texts : goal.returns-in_err-answer-clause-texts
returns-in_err-answer-clause-texts g c =
    rw (← c.self.view_is) (rw c.get_mut.follows.holds-at-none at c.answer_unopened.ensures.texts)

pub returns-in_err-answer-clause-none : goal.returns-in_err-answer-clause-none
returns-in_err-answer-clause-none g c =
    let stays = rw c.get_mut.follows.holds-at-none at c.answer_unopened.ensures.none in
    rw (← c.self.view_is) (λ none. none_still (get bytes_eq c.answer_unopened.new.tenants) _ _ (stays none))

pub returns-clause-answered : goal.returns-clause-answered
returns-clause-answered g c =
    let old = c.self.inside.tenants in
    let new = c.answer_unopened.new.tenants in
    let is = c.get_mut.follows.holds-at-none in
    let a = c.in_ok-answer.answer in
    rw (← c.self.view_is) (answered_unopened g.H.Handler.meaning
    (addressed c.args.step.now).0 (addressed c.args.step.now).1 a.said a.reply
    (get bytes_eq old) (get bytes_eq new) (keys old) (keys new) c.self.inside.log
    (rw c.tenant-name.ensures at c.in_default.ensures.value)
    (rw (c.tenant-name.ensures, c.in_ok-own_step.ensures.same, is) at (c.in_ok-answer.ensures.did c.self.inside.log))
    (rw (c.tenant-name.ensures, is) at c.in_ok-answer.ensures.others))

pub returns-clause-texts : goal.returns-clause-texts
returns-clause-texts g c =
    rw (← c.self.view_is) (rw c.get_mut.follows.holds-at-none at c.answer_unopened.ensures.texts)

pub returns-clause-none : goal.returns-clause-none
returns-clause-none g c =
    let stays = rw c.get_mut.follows.holds-at-none at c.answer_unopened.ensures.none in
    rw (← c.self.view_is) (λ none. none_still (get bytes_eq c.answer_unopened.new.tenants) _ _ (stays none))

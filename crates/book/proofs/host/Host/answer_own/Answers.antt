use Rattle.std.proofs.Common.{bytes_eq, rules}
use Rattle.indexmap.specs.IndexMap.{get, keys}
use Rattle.book.proofs.Answers.{SaysDevice, answered_open, answered_unopened, both_ok, if_ok, steady_ok}
use Rattle.book.proofs.Standing.{none_but, none_still}
use Rattle.book.proofs.host.Host.answer_own.Goals as goal

pub returns-in-Some-clause-answered : goal.returns-in-Some-clause-answered
returns-in-Some-clause-answered g c =
    let old = c.self.inside.tenants in
    let new = c.get_mut.follows.lender c.step.new.self in
    let r = c.step.result in
    let e = c.step.ensures in
    rw (← c.self.view_is) (if_ok r
    (λ a h. answered_open g.H.Handler.meaning c.args.name.now c.args.step a.said a.reply
    c.in-Some.tenant.now c.step.new.self (get bytes_eq old) (get bytes_eq new) (keys old) (keys new) c.self.inside.log
    c.step.new.log (search rules) (search rules) (search rules) (search rules) h.0 h.1.0 h.1.1.0 e.others
    e.others_live e.up h.1.1.1 e.once)
    (both_ok _ _ r e.did (both_ok _ _ r e.keeps_on (both_ok _ _ r e.just (steady_ok SaysDevice r e.steady)))))

pub returns-in-Some-clause-texts : goal.returns-in-Some-clause-texts
returns-in-Some-clause-texts g c = rw (← c.self.view_is) (search rules)

pub returns-in-Some-clause-none : goal.returns-in-Some-clause-none
returns-in-Some-clause-none g c =
    rw (← c.self.view_is) (none_but (get bytes_eq c.self.inside.tenants)
    (get bytes_eq (c.get_mut.follows.lender c.step.new.self)) c.args.name.now c.args.step c.in-Some.tenant.now
    c.step.new.self (search rules) (search rules) (search rules) c.step.ensures.none)

pub returns-clause-answered : goal.returns-clause-answered
returns-clause-answered g c =
    let old = c.self.inside.tenants in
    let new = c.answer_unopened.new.tenants in
    let is = c.get_mut.follows.holds-at-none in
    rw (← c.self.view_is) (if_ok c.answer_unopened.result
    (λ a did. answered_unopened g.H.Handler.meaning
    c.args.name.now c.args.step a.said a.reply (get bytes_eq old) (get bytes_eq new) (keys old) (keys new)
    c.self.inside.log c.in_default.ensures.value (rw is at (did c.self.inside.log))
    (rw is at c.answer_unopened.ensures.others))
    c.answer_unopened.ensures.did)

pub returns-clause-texts : goal.returns-clause-texts
returns-clause-texts g c = rw (← c.self.view_is) (rw c.get_mut.follows.holds-at-none at c.answer_unopened.ensures.texts)

pub returns-clause-none : goal.returns-clause-none
returns-clause-none g c =
    let stays = rw c.get_mut.follows.holds-at-none at c.answer_unopened.ensures.none in
    rw (← c.self.view_is) (λ none.
    none_still (get bytes_eq c.answer_unopened.new.tenants) c.args.name.now c.args.step (stays none))

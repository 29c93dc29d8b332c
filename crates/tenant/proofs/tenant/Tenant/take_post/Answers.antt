use Rattle.std.proofs.Common.{[], refl, ap}
use Rattle.std.specs.Prelude.{None}
use Rattle.std.proofs.lemmas.Option.{slice_get_within}
use Rattle.model.specs.declared.names.Source.TheVariants.{Outside}
use Rattle.rollback.specs.Units.{recorded}
use Rattle.tenant.specs.Answers.{Answer}
use Rattle.tenant.proofs.Asking.{asked_is_up, refused_stays}
use Rattle.tenant.proofs.Planning.{planned_next, planned_plain, planned_whole}
use Rattle.tenant.proofs.Posting.{post_none, post_planned, post_refused_then}
use Rattle.tenant.proofs.PastKept.{received_same}
use Rattle.tenant.proofs.tenant.Tenant.take_post.Goals as goal

pub returns-in-None-clause-done : goal.returns-in-None-clause-done
returns-in-None-clause-done g c = λ live w log s.
    refused_stays g.H.Handler.meaning
    c.args.name.now live c.args.self.now w log s _ _ _ (post_none g.H.Handler.meaning c.args.name.now live
    c.args.self.now w log s c.args.unit c.args.number c.args.text c.in-None.ensures).1 c.refused.ensures.reply

pub returns-in-Err-clause-done : goal.returns-in-Err-clause-done
returns-in-Err-clause-done g c = λ live w log s.
    let r = c.requires.own c.in-Some.member.now c.in-Some.ensures in
    let planned = rw (c.in-Err.is, r.own) at c.in_ok-refusal.ensures in
    rw (c.refused-in-Err.ensures.reply) (post_refused_then g.H.Handler.meaning c.args.name.now
    live c.args.self.now w log s c.args.unit c.args.number c.args.text c.in-Some.member.now c.in-Some.ensures
    r.input r.asking c.in-Err.refusal planned)

pub plan-requires-clause-room : goal.plan-requires-clause-room
plan-requires-clause-room g c κs within = (c.requires.own c.in-Some.member.now c.in-Some.ensures).asking.room

pub plan-requires-clause-up : goal.plan-requires-clause-up
plan-requires-clause-up g c κs within =
    let r = c.requires.own c.in-Some.member.now c.in-Some.ensures in
    asked_is_up c.in-Some.member.now.unit_state Outside c.args.text r.input r.asking.asked

pub plan-requires-clause-there : goal.plan-requires-clause-there
plan-requires-clause-there g c κs within = slice_get_within c.args.self.now.members c.args.unit _ c.in-Some.ensures

pub apply-requires-clause-within : goal.apply-requires-clause-within
apply-requires-clause-within g c κs within = slice_get_within c.args.self.now.members c.args.unit _ c.in-Some.ensures

pub apply-requires-clause-next : goal.apply-requires-clause-next
apply-requires-clause-next g c κs within = λ m there.
    let r = c.requires.own c.in-Some.member.now c.in-Some.ensures in
    let planned = rw (c.in-Ok.is) at c.in_ok-refusal.ensures in
    planned_next c.args.name.now
    c.args.self.now c.args.unit c.in-Some.member.now _ c.args.turn c.in-Ok.plan planned _ Outside c.args.text
    r.input r.asking g.H.Handler.meaning r.own refl refl c.in-Some.ensures m there

pub returns-in_ok-answer-in-Ok-clause-plain : goal.returns-in_ok-answer-in-Ok-clause-plain
returns-in_ok-answer-in-Ok-clause-plain g c =
    let r = c.requires.own c.in-Some.member.now c.in-Some.ensures in
    let planned = rw (c.in-Ok.is) at c.in_ok-refusal.ensures in
    rw (c.in_ok-answer-in-Ok.ensures.answer)
    (planned_plain c.args.name.now c.args.self.now c.args.unit c.in-Some.member.now _ c.args.turn c.in-Ok.plan
    planned _ Outside c.args.text r.input r.asking)

pub returns-in_ok-answer-in-Ok-clause-done : goal.returns-in_ok-answer-in-Ok-clause-done
returns-in_ok-answer-in-Ok-clause-done g c = λ live w log s.
    let r = c.requires.own c.in-Some.member.now c.in-Some.ensures in
    let planned = rw (c.in-Ok.is) at c.in_ok-refusal.ensures in
    post_planned g.H.Handler.meaning c.args.name.now live c.args.self.now w log s c.args.unit c.args.number c.args.text
    c.in-Some.member.now c.in-Some.ensures r.input r.asking
    c.args.turn r.own _ (λ i. record {
      source = Outside;
      letter = None;
      number = c.from.ensures i;
      text = c.args.text;
      vector = [];
    }) c.in-Ok.plan planned
    c.in_ok-answer-in-Ok.answer.reply (ap (λ (a : Answer). a.reply) c.in_ok-answer-in-Ok.ensures.answer)
    c.apply.new.self (c.in_ok-answer-in-Ok.ensures.ok c.in-Some.member.now c.in-Some.ensures)

pub returns-in_ok-answer-in-Ok-clause-shelves : goal.returns-in_ok-answer-in-Ok-clause-shelves
returns-in_ok-answer-in-Ok-clause-shelves g c =
    let r = c.requires.own c.in-Some.member.now c.in-Some.ensures in
    let planned = rw (c.in-Ok.is) at c.in_ok-refusal.ensures in
    received_same g.H.Handler.meaning c.args.self.now c.args.unit c.in-Some.member.now c.in-Some.ensures
    c.apply.new.self (recorded c.args.name.now c.in-Ok.plan.logged) c.args.turn.outputs
    c.in-Ok.plan.made.items (c.in_ok-answer-in-Ok.ensures.ok c.in-Some.member.now c.in-Some.ensures)
    (planned_whole c.args.name.now c.args.self.now c.args.unit c.in-Some.member.now _ c.args.turn c.in-Ok.plan
    planned _ Outside c.args.text r.input r.asking)

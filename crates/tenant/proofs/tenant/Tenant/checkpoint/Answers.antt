use Rattle.std.proofs.Common.{ap, arith, refl}
use Rattle.std.proofs.lemmas.Option.{slice_get_within}
use Rattle.model.specs.declared.steps.TenantStep.TheVariants.{Checkpoint}
use Rattle.tenant.specs.Kept.{Member, TenantState, checkpointed_member}
use Rattle.tenant.proofs.Live.{like_own}
use Rattle.tenant.proofs.Moving.{beside_stands, did_then}
use Rattle.tenant.proofs.Others.{beside_live}
use Rattle.tenant.proofs.Shelving.{checkpoint_done, checkpoint_refused, checkpoint_unlogged}
use Rattle.tenant.proofs.Stepping.{any_did}
use Rattle.tenant.proofs.PastKept.{checkpoint_keeps, refused_keeps}
use Rattle.tenant.proofs.tenant.Tenant.checkpoint.Goals as goal

pub returns-in-Err-clause-did : goal.returns-in-Err-clause-did
returns-in-Err-clause-did g c =
    any_did g.H.Handler.meaning c.args.tenant.now c.args.self.now
    c.args.self.now (Checkpoint c.args.unit) c.args.log.now (λ w. (refl, refl, refl)) c.refused.result
    (λ name live w log s. rw c.refused.ensures.reply (checkpoint_refused g.H.Handler.meaning name
    live c.args.self.now w log s c.args.unit c.in-Err.refusal c.in-Err.ensures.refused)) c.refused.ensures.plain

pub returns-then-volatile_count-gt0-clause-did : goal.returns-then-volatile_count-gt0-clause-did
returns-then-volatile_count-gt0-clause-did g c =
    let some = c.if-volatile_count-gt0.true in
    let count = c.volatile_count.ensures in
    any_did g.H.Handler.meaning c.args.tenant.now c.args.self.now c.args.self.now
    (Checkpoint c.args.unit) c.args.log.now (λ w. (refl, refl, refl)) c.refused-then-volatile_count-gt0.result
    (λ name live w log s.
    rw c.refused-then-volatile_count-gt0.ensures.reply (checkpoint_unlogged
    g.H.Handler.meaning name live c.args.self.now w log s c.args.unit c.in-Ok.member.now c.in-Ok.ensures.found
    c.in-Ok.ensures.up (omega (arith, some, count)))) c.refused-then-volatile_count-gt0.ensures.plain

pub checkpoint_at-requires-clause-within : goal.checkpoint_at-requires-clause-within
checkpoint_at-requires-clause-within g c κs within =
    slice_get_within c.args.self.now.members c.args.unit _ c.in-Ok.ensures.found

pub returns-clause-did : goal.returns-clause-did
returns-clause-did g c = λ w s.
    let none = c.if-volatile_count-gt0.false in
    let count = c.volatile_count.ensures in
    let m : Member _ = c.in-Ok.member.now in
    let new = c.in_ok-checkpoint_at.ensures.ok m c.in-Ok.ensures.found in
    did_then g.H.Handler.meaning c.args.tenant.now w c.checkpoint_at.new.self c.forget_firm.new.self (Checkpoint
    c.args.unit) c.quiet.result.said c.quiet.result.reply c.args.log.now c.args.log.now c.forget_firm.new.log
    (any_did g.H.Handler.meaning c.args.tenant.now c.args.self.now
    c.checkpoint_at.new.self (Checkpoint c.args.unit) c.args.log.now (λ w. (refl, refl, refl)) c.quiet.result
    (λ name live w log s.
    rw (c.quiet.ensures.reply, new)
    (checkpoint_done g.H.Handler.meaning name live c.args.self.now w log s c.args.unit m c.in-Ok.ensures.found
    c.in-Ok.ensures.up (omega (arith, none, count)) c.last_mark-at.result c.last_mark-at.ensures))
    c.quiet.ensures.plain w s)
    c.forget_firm.ensures.stands c.forget_firm.ensures.beside

pub returns-clause-others : goal.returns-clause-others
returns-clause-others g c = λ k w other differs s.
    beside_stands g.H.Handler.meaning
    c.args.tenant.now other k w c.args.log.now c.forget_firm.new.log c.forget_firm.ensures.beside differs s

pub returns-in-Err-clause-keeps_on : goal.returns-in-Err-clause-keeps_on
returns-in-Err-clause-keeps_on g c =
    refused_keeps g.H.Handler.meaning c.args.tenant.now c.args.self.now c.args.self.now c.args.log.now.records
    (Checkpoint c.args.unit) c.refused.result.said c.refused.result.reply _ c.refused.ensures.reply refl

pub returns-then-volatile_count-gt0-clause-keeps_on : goal.returns-then-volatile_count-gt0-clause-keeps_on
returns-then-volatile_count-gt0-clause-keeps_on g c =
    let answer = c.refused-then-volatile_count-gt0.result in
    refused_keeps g.H.Handler.meaning c.args.tenant.now c.args.self.now c.args.self.now c.args.log.now.records
    (Checkpoint c.args.unit) answer.said answer.reply _ c.refused-then-volatile_count-gt0.ensures.reply refl

pub returns-clause-keeps_on : goal.returns-clause-keeps_on
returns-clause-keeps_on g c =
    let none = c.if-volatile_count-gt0.false in
    let count = c.volatile_count.ensures in
    let m : Member _ = c.in-Ok.member.now in
    let new = c.in_ok-checkpoint_at.ensures.ok m c.in-Ok.ensures.found in
    checkpoint_keeps g.H.Handler.meaning
    c.args.tenant.now c.args.self.now c.checkpoint_at.new.self c.forget_firm.new.self
    c.args.log.now.records c.args.unit m c.in-Ok.ensures.found c.in-Ok.ensures.up (omega (arith, none, count))
    c.last_mark-at.result c.last_mark-at.ensures
    new c.forget_firm.ensures.bases c.quiet.result.said c.quiet.result.reply c.quiet.ensures.reply

pub returns-clause-just : goal.returns-clause-just
returns-clause-just g c = λ w s has.
    let none = c.if-volatile_count-gt0.false in
    let count = c.volatile_count.ensures in
    let m : Member g.row.H-State.Denot = c.in-Ok.member.now in
    let new = c.in_ok-checkpoint_at.ensures.ok m c.in-Ok.ensures.found in
    let d = any_did g.H.Handler.meaning c.args.tenant.now c.args.self.now
    c.checkpoint_at.new.self (Checkpoint c.args.unit) c.args.log.now (λ w. (refl, refl, refl)) c.quiet.result
    (λ name live w log s.
    rw (c.quiet.ensures.reply, new)
    (checkpoint_done g.H.Handler.meaning name live c.args.self.now w log s c.args.unit m c.in-Ok.ensures.found
    c.in-Ok.ensures.up (omega (arith, none, count)) c.last_mark-at.result c.last_mark-at.ensures))
    c.quiet.ensures.plain w s in
    c.forget_firm.ensures.just d.steps.0 d.steps.2
    (like_own c.args.tenant.now c.args.self.now c.checkpoint_at.new.self c.args.log.now.records c.args.unit m
    (checkpointed_member m) c.in-Ok.ensures.found refl
    (ap (λ (z : TenantState g.row.H-State.Denot). z.members) new) has)

pub returns-clause-others_live : goal.returns-clause-others_live
returns-clause-others_live g c =
    beside_live c.args.tenant.now c.args.log.now c.forget_firm.new.log c.forget_firm.ensures.beside

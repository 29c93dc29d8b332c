use Rattle.std.proofs.Common.{inl, refl}
use Rattle.model.specs.declared.steps.TenantStep.TheVariants.{Checkpoint, Deliver, Flush, Join, Kill, Notice, Post}
use Rattle.model.specs.declared.steps.TenantStep.TheVariants.{Release, Restart, Status}
use Rattle.tenant.proofs.Stepping.{any_did, any_ok, plain_ok}
use Rattle.model.specs.declared.steps.TenantStep.{TenantStep}
use Rattle.tenant.proofs.Giving.{none_but, none_still}
use Rattle.tenant.proofs.Live.{join_stable, quiet_keeps, quiet_ok, stays_bases, stays_ok, stays_stable}
use Rattle.tenant.proofs.PastKept.{after_join_bases, join_ok, none_changed, notice_ok, release_ok, restart_ok}
use Rattle.tenant.proofs.PastKept.{same_keeps, same_ok}
use Rattle.tenant.proofs.PastKept.{StepStays}
use Rattle.tenant.proofs.PastKept.StepStays.{deliver_stays, kill_stays, post_stays, release_stays}
use Rattle.tenant.proofs.PastKept.StepStays.{status_stays}
use Rattle.tenant.proofs.tenant.Tenant.step.Goals as goal

pub returns-in-Join-clause-did : goal.returns-in-Join-clause-did
returns-in-Join-clause-did g c =
    rw (c.in-Join.is, ← c.as_str.ensures)
    (any_ok g.H.Handler.meaning c.args.name.now c.args.self.now c.join.new.self (Join c.as_str.result.now)
    c.args.log.now (λ w. (refl, refl, refl)) c.join.result c.join.ensures.done c.join.ensures.plain)

pub returns-in-Post-clause-did : goal.returns-in-Post-clause-did
returns-in-Post-clause-did g c =
    rw (c.in-Post.is)
    (plain_ok g.H.Handler.meaning
    c.args.name.now c.args.self.now c.post.new.self (Post c.in-Post.unit c.in-Post.number c.in-Post.text)
    c.args.log.now (λ w. (refl, refl, refl)) c.post.result c.post.ensures.done c.post.ensures.plain)

pub returns-in-Deliver-clause-did : goal.returns-in-Deliver-clause-did
returns-in-Deliver-clause-did g c =
    rw (c.in-Deliver.is)
    (plain_ok g.H.Handler.meaning c.args.name.now c.args.self.now c.deliver.new.self (Deliver c.in-Deliver.letter)
    c.args.log.now (λ w. (refl, refl, refl)) c.deliver.result c.deliver.ensures.done c.deliver.ensures.plain)

pub returns-in-Flush-clause-did : goal.returns-in-Flush-clause-did
returns-in-Flush-clause-did g c = rw (c.in-Flush.is) c.flush.ensures.did

pub returns-in-Checkpoint-clause-did : goal.returns-in-Checkpoint-clause-did
returns-in-Checkpoint-clause-did g c = rw (c.in-Checkpoint.is) c.checkpoint.ensures.did

pub returns-in-Kill-clause-did : goal.returns-in-Kill-clause-did
returns-in-Kill-clause-did g c =
    rw (c.in-Kill.is)
    (any_did g.H.Handler.meaning c.args.name.now c.args.self.now c.kill.new.self (Kill c.in-Kill.unit)
    c.args.log.now (λ w. (refl, refl, refl)) c.kill.result c.kill.ensures.done c.kill.ensures.plain)

pub returns-in-Restart-clause-did : goal.returns-in-Restart-clause-did
returns-in-Restart-clause-did g c = rw (c.in-Restart.is) c.restart.ensures.did

pub returns-in-Notice-clause-did : goal.returns-in-Notice-clause-did
returns-in-Notice-clause-did g c = rw (c.in-Notice.is) c.notice.ensures.did

pub returns-in-Release-clause-did : goal.returns-in-Release-clause-did
returns-in-Release-clause-did g c =
    rw (c.in-Release.is)
    (any_ok g.H.Handler.meaning c.args.name.now c.args.self.now c.release.new.self (Release c.in-Release.unit)
    c.args.log.now (λ w. (refl, refl, refl)) c.release.result c.release.ensures.done c.release.ensures.plain)

pub returns-clause-did : goal.returns-clause-did
returns-clause-did g c =
    rw (c.in-Status.is)
    (any_did g.H.Handler.meaning
    c.args.name.now c.args.self.now c.args.self.now (Status c.in-Status.unit) c.args.log.now
    (λ w. (refl, refl, refl)) c.answer_status.result c.answer_status.ensures.done c.answer_status.ensures.plain)

pub returns-in-Join-clause-keeps_on : goal.returns-in-Join-clause-keeps_on
returns-in-Join-clause-keeps_on g c = rw (c.in-Join.is, ← c.as_str.ensures) (join_ok g.H.Handler.meaning c.args.name.now
    c.args.self.now c.join.new.self c.args.log.now.records c.as_str.result.now c.join.result c.join.ensures.shelves)

pub returns-in-Post-clause-keeps_on : goal.returns-in-Post-clause-keeps_on
returns-in-Post-clause-keeps_on g c = rw (c.in-Post.is) (same_ok g.H.Handler.meaning c.args.name.now
    c.args.self.now c.post.new.self c.args.log.now.records (Post c.in-Post.unit c.in-Post.number c.in-Post.text)
    (post_stays c.in-Post.unit c.in-Post.number c.in-Post.text) c.post.result c.post.ensures.shelves)

pub returns-in-Deliver-clause-keeps_on : goal.returns-in-Deliver-clause-keeps_on
returns-in-Deliver-clause-keeps_on g c = rw (c.in-Deliver.is)
    (same_ok g.H.Handler.meaning c.args.name.now c.args.self.now c.deliver.new.self c.args.log.now.records
    (Deliver c.in-Deliver.letter) (deliver_stays c.in-Deliver.letter) c.deliver.result c.deliver.ensures.shelves)

pub returns-in-Kill-clause-keeps_on : goal.returns-in-Kill-clause-keeps_on
returns-in-Kill-clause-keeps_on g c =
    rw (c.in-Kill.is) (same_keeps g.H.Handler.meaning c.args.name.now c.args.self.now c.kill.new.self
    c.args.log.now.records (Kill c.in-Kill.unit) (kill_stays c.in-Kill.unit) c.kill.ensures.shelves c.kill.result)

pub returns-in-Restart-clause-keeps_on : goal.returns-in-Restart-clause-keeps_on
returns-in-Restart-clause-keeps_on g c =
    rw (c.in-Restart.is) (restart_ok g.H.Handler.meaning c.args.name.now c.args.self.now
    c.restart.new.self c.args.log.now.records c.in-Restart.unit c.restart.result c.restart.ensures.shelves)

pub returns-in-Notice-clause-keeps_on : goal.returns-in-Notice-clause-keeps_on
returns-in-Notice-clause-keeps_on g c =
    rw (c.in-Notice.is) (notice_ok g.H.Handler.meaning c.args.name.now c.args.self.now
    c.notice.new.self c.args.log.now.records c.in-Notice.unit c.notice.result c.notice.ensures.shelves)

pub returns-in-Release-clause-keeps_on : goal.returns-in-Release-clause-keeps_on
returns-in-Release-clause-keeps_on g c =
    rw (c.in-Release.is) (release_ok g.H.Handler.meaning c.args.name.now c.args.self.now
    c.release.new.self c.args.log.now.records c.in-Release.unit c.release.result c.release.ensures.shelves)

pub returns-clause-keeps_on : goal.returns-clause-keeps_on
returns-clause-keeps_on g c = rw (c.in-Status.is) (same_keeps g.H.Handler.meaning
    c.args.name.now c.args.self.now c.args.self.now c.args.log.now.records (Status c.in-Status.unit)
    (status_stays c.in-Status.unit) (none_changed c.args.self.now c.args.self.now refl) c.answer_status.result)

pub returns-in-Join-clause-just : goal.returns-in-Join-clause-just
returns-in-Join-clause-just g c =
    rw (c.in-Join.is, ← c.as_str.ensures)
    (quiet_ok g.H.Handler.meaning c.args.name.now c.args.self.now c.join.new.self (Join c.as_str.result.now)
    c.args.log.now (join_stable g.H.Handler.meaning c.args.name.now c.as_str.result.now)
    (λ z reply. after_join_bases reply) c.join.result
    (any_ok g.H.Handler.meaning c.args.name.now c.args.self.now c.join.new.self (Join c.as_str.result.now)
    c.args.log.now (λ w. (refl, refl, refl)) c.join.result c.join.ensures.done c.join.ensures.plain)
    (join_ok g.H.Handler.meaning c.args.name.now c.args.self.now c.join.new.self c.args.log.now.records
    c.as_str.result.now c.join.result c.join.ensures.shelves))

pub returns-in-Post-clause-just : goal.returns-in-Post-clause-just
returns-in-Post-clause-just g c =
    let name = c.args.name.now in
    let step : TenantStep = Post c.in-Post.unit c.in-Post.number c.in-Post.text in
    let stays : StepStays step = post_stays c.in-Post.unit c.in-Post.number c.in-Post.text in
    rw (c.in-Post.is)
    (quiet_ok g.H.Handler.meaning name c.args.self.now c.post.new.self step c.args.log.now
    (stays_stable g.H.Handler.meaning name step stays) (stays_bases g.H.Handler.meaning name step stays)
    c.post.result
    (plain_ok g.H.Handler.meaning name c.args.self.now c.post.new.self step c.args.log.now
    (λ w. (refl, refl, refl)) c.post.result c.post.ensures.done c.post.ensures.plain)
    (same_ok g.H.Handler.meaning name c.args.self.now c.post.new.self c.args.log.now.records step stays
    c.post.result c.post.ensures.shelves))

pub returns-in-Deliver-clause-just : goal.returns-in-Deliver-clause-just
returns-in-Deliver-clause-just g c =
    let name = c.args.name.now in
    let step : TenantStep = Deliver c.in-Deliver.letter in
    let stays : StepStays step = deliver_stays c.in-Deliver.letter in
    rw (c.in-Deliver.is)
    (quiet_ok g.H.Handler.meaning name c.args.self.now c.deliver.new.self step c.args.log.now
    (stays_stable g.H.Handler.meaning name step stays) (stays_bases g.H.Handler.meaning name step stays)
    c.deliver.result
    (plain_ok g.H.Handler.meaning name c.args.self.now c.deliver.new.self step c.args.log.now
    (λ w. (refl, refl, refl)) c.deliver.result c.deliver.ensures.done c.deliver.ensures.plain)
    (same_ok g.H.Handler.meaning name c.args.self.now c.deliver.new.self c.args.log.now.records step stays
    c.deliver.result c.deliver.ensures.shelves))

pub returns-in-Release-clause-just : goal.returns-in-Release-clause-just
returns-in-Release-clause-just g c =
    let name = c.args.name.now in
    let step : TenantStep = Release c.in-Release.unit in
    let stays : StepStays step = release_stays c.in-Release.unit in
    rw (c.in-Release.is)
    (quiet_ok g.H.Handler.meaning name c.args.self.now c.release.new.self step c.args.log.now
    (stays_stable g.H.Handler.meaning name step stays) (stays_bases g.H.Handler.meaning name step stays)
    c.release.result
    (any_ok g.H.Handler.meaning name c.args.self.now c.release.new.self step c.args.log.now
    (λ w. (refl, refl, refl)) c.release.result c.release.ensures.done c.release.ensures.plain)
    (release_ok g.H.Handler.meaning name c.args.self.now c.release.new.self c.args.log.now.records
    c.in-Release.unit c.release.result c.release.ensures.shelves))

pub returns-in-Kill-clause-just : goal.returns-in-Kill-clause-just
returns-in-Kill-clause-just g c =
    let name = c.args.name.now in
    let step : TenantStep = Kill c.in-Kill.unit in
    let stays : StepStays step = kill_stays c.in-Kill.unit in
    rw (c.in-Kill.is)
    (quiet_keeps g.H.Handler.meaning name c.args.self.now c.kill.new.self step c.args.log.now
    (stays_stable g.H.Handler.meaning name step stays) (stays_bases g.H.Handler.meaning name step stays)
    c.kill.result
    (any_did g.H.Handler.meaning name c.args.self.now c.kill.new.self step c.args.log.now
    (λ w. (refl, refl, refl)) c.kill.result c.kill.ensures.done c.kill.ensures.plain)
    (same_keeps g.H.Handler.meaning name c.args.self.now c.kill.new.self c.args.log.now.records step stays
    c.kill.ensures.shelves c.kill.result))

pub returns-clause-just : goal.returns-clause-just
returns-clause-just g c =
    let name = c.args.name.now in
    let t = c.args.self.now in
    let step : TenantStep = Status c.in-Status.unit in
    let stays : StepStays step = status_stays c.in-Status.unit in
    rw (c.in-Status.is)
    (quiet_keeps g.H.Handler.meaning name t t step c.args.log.now
    (stays_stable g.H.Handler.meaning name step stays) (stays_bases g.H.Handler.meaning name step stays)
    c.answer_status.result
    (any_did g.H.Handler.meaning name t t step c.args.log.now
    (λ w. (refl, refl, refl)) c.answer_status.result c.answer_status.ensures.done c.answer_status.ensures.plain)
    (same_keeps g.H.Handler.meaning name t t c.args.log.now.records step stays
    (none_changed t t refl) c.answer_status.result))

pub returns-in-Flush-clause-just : goal.returns-in-Flush-clause-just
returns-in-Flush-clause-just g c =
    rw (c.in-Flush.is)
    (stays_ok g.H.Handler.meaning c.args.name.now c.args.self.now c.flush.new.self (Flush c.in-Flush.unit)
    c.args.log.now c.flush.new.log c.flush.result c.flush.ensures.did c.flush.ensures.keeps_on
    c.flush.ensures.just)

pub returns-in-Checkpoint-clause-just : goal.returns-in-Checkpoint-clause-just
returns-in-Checkpoint-clause-just g c =
    rw (c.in-Checkpoint.is)
    (stays_ok g.H.Handler.meaning c.args.name.now c.args.self.now c.checkpoint.new.self
    (Checkpoint c.in-Checkpoint.unit) c.args.log.now c.checkpoint.new.log c.checkpoint.result
    c.checkpoint.ensures.did c.checkpoint.ensures.keeps_on
    c.checkpoint.ensures.just)

pub returns-in-Restart-clause-just : goal.returns-in-Restart-clause-just
returns-in-Restart-clause-just g c =
    rw (c.in-Restart.is)
    (stays_ok g.H.Handler.meaning c.args.name.now c.args.self.now c.restart.new.self (Restart c.in-Restart.unit)
    c.args.log.now c.restart.new.log c.restart.result c.restart.ensures.did
    (restart_ok g.H.Handler.meaning c.args.name.now c.args.self.now c.restart.new.self c.args.log.now.records
    c.in-Restart.unit c.restart.result c.restart.ensures.shelves) c.restart.ensures.just)

pub returns-in-Notice-clause-just : goal.returns-in-Notice-clause-just
returns-in-Notice-clause-just g c =
    rw (c.in-Notice.is)
    (stays_ok g.H.Handler.meaning c.args.name.now c.args.self.now c.notice.new.self (Notice c.in-Notice.unit)
    c.args.log.now c.notice.new.log c.notice.result c.notice.ensures.did
    (notice_ok g.H.Handler.meaning c.args.name.now c.args.self.now c.notice.new.self c.args.log.now.records
    c.in-Notice.unit c.notice.result c.notice.ensures.shelves) c.notice.ensures.just)

pub returns-in-Join-clause-none : goal.returns-in-Join-clause-none
returns-in-Join-clause-none g c = λ none u texts there. inl (c.join.ensures.none none u texts there)

pub returns-in-Post-clause-none : goal.returns-in-Post-clause-none
returns-in-Post-clause-none g c =
    none_still c.args.self.now c.post.new.self c.args.step c.post.ensures.released

pub returns-in-Deliver-clause-none : goal.returns-in-Deliver-clause-none
returns-in-Deliver-clause-none g c =
    none_still c.args.self.now c.deliver.new.self c.args.step c.deliver.ensures.released

pub returns-in-Flush-clause-none : goal.returns-in-Flush-clause-none
returns-in-Flush-clause-none g c =
    none_still c.args.self.now c.flush.new.self c.args.step c.flush.ensures.released

pub returns-in-Checkpoint-clause-none : goal.returns-in-Checkpoint-clause-none
returns-in-Checkpoint-clause-none g c =
    none_still c.args.self.now c.checkpoint.new.self c.args.step c.checkpoint.ensures.released

pub returns-in-Kill-clause-none : goal.returns-in-Kill-clause-none
returns-in-Kill-clause-none g c =
    none_still c.args.self.now c.kill.new.self c.args.step c.kill.ensures.released

pub returns-in-Restart-clause-none : goal.returns-in-Restart-clause-none
returns-in-Restart-clause-none g c =
    none_still c.args.self.now c.restart.new.self c.args.step c.restart.ensures.released

pub returns-in-Notice-clause-none : goal.returns-in-Notice-clause-none
returns-in-Notice-clause-none g c =
    none_still c.args.self.now c.notice.new.self c.args.step c.notice.ensures.released

pub returns-in-Release-clause-none : goal.returns-in-Release-clause-none
returns-in-Release-clause-none g c =
    rw (c.in-Release.is)
    (none_but c.args.self.now c.release.new.self c.in-Release.unit c.release.ensures.others)

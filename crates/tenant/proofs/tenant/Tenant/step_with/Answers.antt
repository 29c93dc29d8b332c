use Rattle.std.proofs.Common.{refl}
use Rattle.model.specs.declared.steps.TenantStep.TheVariants.{Deliver, Post}
use Rattle.tenant.specs.Needs.{deliver_needs, post_needs}
use Rattle.tenant.proofs.Stepping.{fresh_ok, some_ok}
use Rattle.model.specs.declared.steps.TenantStep.{TenantStep}
use Rattle.tenant.proofs.Live.{quiet_worked, stays_bases, stays_stable}
use Rattle.tenant.proofs.PastKept.{same_worked}
use Rattle.tenant.proofs.PastKept.{StepStays}
use Rattle.tenant.proofs.PastKept.StepStays.{deliver_stays, post_stays}
use Rattle.tenant.proofs.tenant.Tenant.step_with.Goals as goal

pub returns-in-Post-clause-fresh : goal.returns-in-Post-clause-fresh
returns-in-Post-clause-fresh g c =
    rw (c.in-Post.is)
    (fresh_ok g.H.Handler.meaning c.args.name.now c.args.self.now
    c.args.log.now.records (λ w. post_needs g.H.Handler.meaning w c.in-Post.unit c.in-Post.number c.in-Post.text)
    c.args.worked.input c.post_with.result c.post_with.ensures.fresh)

pub returns-in-Post-clause-did : goal.returns-in-Post-clause-did
returns-in-Post-clause-did g c =
    rw (c.in-Post.is)
    (some_ok g.H.Handler.meaning c.args.name.now
    c.args.self.now c.post_with.new.self (Post c.in-Post.unit c.in-Post.number c.in-Post.text) c.args.log.now
    (λ w. (refl, refl, refl)) c.post_with.result c.post_with.ensures.done c.post_with.ensures.plain)

pub returns-in-Deliver-clause-fresh : goal.returns-in-Deliver-clause-fresh
returns-in-Deliver-clause-fresh g c =
    rw (c.in-Deliver.is)
    (fresh_ok g.H.Handler.meaning c.args.name.now
    c.args.self.now c.args.log.now.records (λ w. deliver_needs g.H.Handler.meaning w c.in-Deliver.letter)
    c.args.worked.input c.deliver_with.result c.deliver_with.ensures.fresh)

pub returns-in-Deliver-clause-did : goal.returns-in-Deliver-clause-did
returns-in-Deliver-clause-did g c =
    rw (c.in-Deliver.is)
    (some_ok g.H.Handler.meaning
    c.args.name.now c.args.self.now c.deliver_with.new.self (Deliver c.in-Deliver.letter) c.args.log.now
    (λ w. (refl, refl, refl)) c.deliver_with.result c.deliver_with.ensures.done c.deliver_with.ensures.plain)

pub returns-in-Post-clause-keeps_on : goal.returns-in-Post-clause-keeps_on
returns-in-Post-clause-keeps_on g c = rw (c.in-Post.is) (same_worked g.H.Handler.meaning c.args.name.now
    c.args.self.now c.post_with.new.self c.args.log.now.records (Post c.in-Post.unit c.in-Post.number c.in-Post.text)
    (post_stays c.in-Post.unit c.in-Post.number c.in-Post.text) c.post_with.result c.post_with.ensures.shelves)

pub returns-in-Deliver-clause-keeps_on : goal.returns-in-Deliver-clause-keeps_on
returns-in-Deliver-clause-keeps_on g c = rw (c.in-Deliver.is) (same_worked g.H.Handler.meaning
    c.args.name.now c.args.self.now c.deliver_with.new.self c.args.log.now.records (Deliver c.in-Deliver.letter)
    (deliver_stays c.in-Deliver.letter) c.deliver_with.result c.deliver_with.ensures.shelves)

pub returns-in-Post-clause-just : goal.returns-in-Post-clause-just
returns-in-Post-clause-just g c =
    let name = c.args.name.now in
    let step : TenantStep = Post c.in-Post.unit c.in-Post.number c.in-Post.text in
    let stays : StepStays step = post_stays c.in-Post.unit c.in-Post.number c.in-Post.text in
    rw (c.in-Post.is)
    (quiet_worked g.H.Handler.meaning name c.args.self.now c.post_with.new.self step c.args.log.now
    (stays_stable g.H.Handler.meaning name step stays) (stays_bases g.H.Handler.meaning name step stays)
    c.post_with.result
    (some_ok g.H.Handler.meaning name c.args.self.now c.post_with.new.self step c.args.log.now
    (λ w. (refl, refl, refl)) c.post_with.result c.post_with.ensures.done c.post_with.ensures.plain)
    (same_worked g.H.Handler.meaning name c.args.self.now c.post_with.new.self c.args.log.now.records step stays
    c.post_with.result c.post_with.ensures.shelves))

pub returns-in-Deliver-clause-just : goal.returns-in-Deliver-clause-just
returns-in-Deliver-clause-just g c =
    let name = c.args.name.now in
    let step : TenantStep = Deliver c.in-Deliver.letter in
    let stays : StepStays step = deliver_stays c.in-Deliver.letter in
    rw (c.in-Deliver.is)
    (quiet_worked g.H.Handler.meaning name c.args.self.now c.deliver_with.new.self step c.args.log.now
    (stays_stable g.H.Handler.meaning name step stays) (stays_bases g.H.Handler.meaning name step stays)
    c.deliver_with.result
    (some_ok g.H.Handler.meaning name c.args.self.now c.deliver_with.new.self step c.args.log.now
    (λ w. (refl, refl, refl)) c.deliver_with.result c.deliver_with.ensures.done c.deliver_with.ensures.plain)
    (same_worked g.H.Handler.meaning name c.args.self.now c.deliver_with.new.self c.args.log.now.records step stays
    c.deliver_with.result c.deliver_with.ensures.shelves))

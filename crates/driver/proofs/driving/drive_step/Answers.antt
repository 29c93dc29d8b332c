use Rattle.std.specs.Prelude.{Err}
use Rattle.std.proofs.lemmas.Result.{err_from_is_err_and}
use Rattle.lines.specs.Doing.{DoesBy}
use Rattle.driver.proofs.Rounds.{drove_heard, drove_none, round_fails, step_cut, step_round, wrote_by}
use Rattle.driver.proofs.driving.drive_step.Goals as goal

pub returns-in_err-put_reply : goal.returns-in_err-put_reply
returns-in_err-put_reply g c =
    let Does = DoesBy g.F.Fn c.args.step.now in
    let p = err_from_is_err_and c.from_residual.result c.from_residual.ensures.1 in
    let e = c.in_err-put_reply.field-0.0 in
    let x = c.in_err-put_reply.ensures in
    round_fails Does c.from_residual.result p.0 e c.args.read _ _ _ _ _ _ p.1 p.2
    (step_cut Does {A = Unit {0}} (Err e) c.args.read c.do_step-reply.result _
    _ _ _ _ _ c.do_step-reply.ensures (wrote_by {A = Unit {0}} (Err e) _ _ _ _ _ tt x.err x.write x.read x.same))

pub returns-in_err-take_in : goal.returns-in_err-take_in
returns-in_err-take_in g c =
    let Does = DoesBy g.F.Fn c.args.step.now in
    let p = err_from_is_err_and c.from_residual-in_err-take_in.result c.from_residual-in_err-take_in.ensures.1 in
    let e = c.in_err-take_in.field-0.0 in
    let x = c.in_ok-put_reply.ensures in
    round_fails Does c.from_residual-in_err-take_in.result p.0 e c.args.read _ _ _ _ _ _ p.1 p.2
    (step_round Does {A = Unit {0}}
    (Err e) c.args.read c.do_step-reply.result _ _ _ _ _ _ _ _ _ c.do_step-reply.ensures x.ok (x.same (λ q. cc))
    (drove_heard Does _ {A = Unit {0}} (Err e) _ _ _ _ _ _ c.in_err-take_in.ensures (drove_none Does _ _ _ _)))

pub returns : goal.returns
returns g c =
    let Does = DoesBy g.F.Fn c.args.step.now in
    let x = c.in_ok-put_reply.ensures in
    let on = rw (c.subject_of-subject.ensures, c.tenant.ensures) at c.carry_on.ensures in
    step_round Does c.carry_on.result
    c.args.read c.do_step-reply.result _ _ _ _ _ _ _ _ _ c.do_step-reply.ensures x.ok (x.same (λ q. cc)) on

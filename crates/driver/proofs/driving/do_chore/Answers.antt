use Rattle.std.proofs.Common.{subst, sym}
use Rattle.std.specs.Prelude.{Err}
use Rattle.std.specs.Io.KnownBytes.{Appends}
use Rattle.std.proofs.lemmas.Result.{err_from_is_err_and}
use Rattle.lines.specs.Doing.{DoesBy}
use Rattle.driver.specs.Driving.{WroteUntil, lines_told}
use Rattle.driver.proofs.Rounds.{drove_fails, drove_heard, drove_one, drove_one_on}
use Rattle.driver.proofs.driving.do_chore.Goals as goal

pub returns-in_err-put_left : goal.returns-in_err-put_left
returns-in_err-put_left g c =
    let p = err_from_is_err_and c.from_residual.result c.from_residual.ensures.1 in
    let reply = c.do_step-reply.result in
    let Does = DoesBy g.F.Fn c.args.step.now in
    let wrote = subst (λ s. WroteUntil c.in_err-put_left.field-0.0 (lines_told (s, reply))
    (g.W.Write.contents c.args.writer.now.inner) (g.W.Write.contents c.put_left.new.writer.inner)
    c.args.writer.now.failed c.put_left.new.writer.failed) (sym c.step_of.ensures) c.in_err-put_left.ensures in
    drove_fails Does c.args.tenant.now c.from_residual.result p.0 c.in_err-put_left.field-0.0 _ _ _ _ _ _ p.1 p.2
    (drove_one Does c.args.tenant.now {A = Unit {0}} (Err c.in_err-put_left.field-0.0)
    c.step_of.result reply _ _ _ _ _ _ (c.args.chore.now, c.step_of.ensures) c.do_step-reply.ensures wrote)

pub returns : goal.returns
returns g c =
    let reply = c.do_step-reply.result in
    let Does = DoesBy g.F.Fn c.args.step.now in
    let wrote = subst (λ s. Appends (g.W.Write.contents c.args.writer.now.inner) (g.W.Write.contents
    c.put_left.new.writer.inner) (lines_told (s, reply))) (sym c.step_of.ensures) c.in_ok-put_left.ensures.0 in
    drove_heard Does c.args.tenant.now c.hear_chore.result _ _ _ _ _ _ c.hear_chore.ensures
    (drove_one_on Does c.args.tenant.now c.step_of.result reply _ _ _ _ _ _ (
      c.args.chore.now,
      c.step_of.ensures,
    ) c.do_step-reply.ensures wrote c.in_ok-put_left.ensures.1)

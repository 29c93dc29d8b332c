use Rattle.std.proofs.Common.{◌≡◌, ◌∙◌, false, true, refl, sym}
use Rattle.driver.specs.Driving.{round_text}
use Rattle.shards.proofs.Hosts.{told_alone}
use Rattle.shards.proofs.Telling.{on_err, on_ok}
use Rattle.shards.proofs.stepping.answer_step.Goals as goal

pub returns-then-drives-clause-err : goal.returns-then-drives-clause-err
returns-then-drives-clause-err g c =
    on_err c.drive_step.result _ _ c.drive_step.ensures.err (λ p. (
      round_text p.0,
      (p.0, p.1, refl, λ e. let no : true ≡ false = sym c.if-drives.true ∙ e in absurd cc),
      p.2,
    ))

pub returns-clause-ok : goal.returns-clause-ok
returns-clause-ok g c =
    on_ok c.add_line.result _ _ c.add_line.ensures.ok (λ p. (
      _,
      told_alone g.H.Handler.meaning c.args.drives _ c.args.step c.step-reply.result _ c.step-reply.ensures.entered,
      p,
    ))

pub returns-clause-err : goal.returns-clause-err
returns-clause-err g c =
    on_err c.add_line.result _ _ c.add_line.ensures.err (λ p. (
      _,
      told_alone g.H.Handler.meaning c.args.drives _ c.args.step c.step-reply.result _ c.step-reply.ensures.entered,
      p,
    ))

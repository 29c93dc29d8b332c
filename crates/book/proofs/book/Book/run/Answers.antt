use Rattle.std.proofs.Common.{[], drop, arith, ◌+◌, ◌++◌, ◌∷◌, subst}
use Rattle.std.proofs.lemmas.Grind.{common_steps}
use Rattle.book.proofs.Runs.{Leads, ran_next, ran_end}
use Rattle.book.specs.Entries.{IsEntered}
use Rattle.model.specs.declared.replies.Who.TheVariants.{Caller}
use Rattle.book.proofs.book.Book.run.Goals as goal

pub loop-step-preserved : goal.loop-step-preserved
loop-step-preserved g c =
    let more : Leads c.args.self.now c.args.steps.now c.step_copy.new.self
    (drop (c.loop-step.step-index + 1) c.args.steps.now) (c.loop-step.replies.items ++ c.step_copy.result ∷ []) =
    ran_next c.args.self.now c.args.steps.now c.loop-step.self
    c.step_copy.new.self c.loop-step.step-index c.step-item.result c.loop-step.replies.items c.step_copy.result
    c.loop-step-test.true
    (subst (λ s. IsEntered c.loop-step.self Caller s c.step_copy.result c.step_copy.new.self)
    c.step-item.is c.step_copy.ensures)
    c.loop-step.invariant.1 in (
      grind (arith, common_steps),
      rw c.push_reserved.ensures.items more,
    )

pub returns-clause-ran : goal.returns-clause-ran
returns-clause-ran g c =
    ran_end c.args.self.now c.args.steps.now
    c.loop-step.self (drop c.loop-step.step-index c.args.steps.now) c.loop-step.replies.items
    (grind (arith, common_steps)) c.loop-step.invariant.1

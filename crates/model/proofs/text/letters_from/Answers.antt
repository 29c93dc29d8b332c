use Rattle.model.proofs.Places.{numbers_step}
use Rattle.model.proofs.text.letters_from.Goals as goal

pub loop-i-preserved : goal.loop-i-preserved
loop-i-preserved c = numbers_step c.args.first c.args.n c.loop-i.i _ _ c.loop-i-test.true c.loop-i.invariant
    (rw c.nth.ensures at c.in_ok-push.ensures.items)

use Rattle.audit.proofs.Beginning.{at_first, begins_here, differs_here, all_begin}
use Rattle.audit.proofs.outputs.first_differing.Goals as goal

pub loop-i-init : goal.loop-i-init
loop-i-init g c = at_first c.args.workers.now c.args.released.now

pub loop-i-preserved : goal.loop-i-preserved
loop-i-preserved g c = begins_here c.args.workers.now c.args.released.now c.loop-i.i _ _ c.loop-i-test.true
    c.requires.lists c.index-workers-i.is c.index-released-i.is
    (rw (c.as_slice.ensures, c.outputs.ensures) at
    (c.begin_with.ensures.0 c.if-not-begin_with.false)) c.loop-i.invariant

pub returns-then-not-begin_with : goal.returns-then-not-begin_with
returns-then-not-begin_with g c = rw c.unit.ensures (differs_here c.args.workers.now c.args.released.now c.loop-i.i _
    _ c.loop-i-test.true c.requires.lists c.index-workers-i.is c.index-released-i.is c.requires.order
    (λ p. let t = c.begin_with.ensures.1 (rw (c.as_slice.ensures, c.outputs.ensures) p) in
    let f = c.if-not-begin_with.true in cc) c.loop-i.invariant)

pub returns : goal.returns
returns g c = all_begin c.args.workers.now c.args.released.now c.loop-i.i c.loop-i-test.false c.requires.lists
    c.loop-i.invariant

use Rattle.session.proofs.Cuts.{cut_step, cut_done}
use Rattle.session.proofs.sessions.cut_all.Goals as goal

pub loop-unit-preserved : goal.loop-unit-preserved
loop-unit-preserved c = rw c.entry.ensures (cut_step c.args.earlier.now
    c.args.units.now c.loop-unit.units c.loop-unit.unit c.requires c.loop-unit-test.true c.loop-unit.invariant)

pub returns : goal.returns
returns c = cut_done c.args.earlier.now
    c.args.units.now c.loop-unit.units c.loop-unit.unit c.requires c.loop-unit-test.false c.loop-unit.invariant

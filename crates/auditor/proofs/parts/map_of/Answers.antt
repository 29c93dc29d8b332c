use Rattle.auditor.specs.Parting.{part_in}
use Rattle.auditor.proofs.Parting.{parts_on}
use Rattle.auditor.proofs.parts.map_of.Goals as goal

pub loop-entry-preserved : goal.loop-entry-preserved
loop-entry-preserved c =
    parts_on (part_in c.loop-entry.map)
    (part_in c.add.new.map) c.args.history.now c.loop-entry.entry-index c.entry-item.result
    c.loop-entry-test.true c.entry-item.is c.in_ok-add.ensures c.loop-entry.invariant

use Rattle.std.proofs.Common.{◌++◌}
use Rattle.std.proofs.KnownBytes.{Consumes-trans}
use Rattle.durable.proofs.measuring.measure.Goals as goal

pub loop-preserved : goal.loop-preserved
loop-preserved g c =
    let so_far = c.loop.invariant in
    let test = c.if-branch.false in
    let block = c.in_ok-measure_block.ensures in
    let more = rw test at block in
    (so_far.0 ++ more.0, Consumes-trans _ _ _ _ _ so_far.1 more.1, more.2 so_far.0 so_far.2)

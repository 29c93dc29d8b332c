use Rattle.lines.specs.Doing.{DoesBy}
use Rattle.driver.specs.Driving.{DroveOn}
use Rattle.driver.proofs.driving.do_chores.Given as goal

-- steps of the driver were done
abbrev pub invariant-loop-chore : goal.invariant-loop-chore
invariant-loop-chore g l =
    DroveOn (DoesBy g.F.Fn l.fn.step) l.fn.tenant l.fn.book l.book
    (g.W.Write.contents l.fn.writer.inner) (g.W.Write.contents l.writer.inner) l.fn.writer.failed l.writer.failed

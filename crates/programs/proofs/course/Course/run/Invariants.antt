use Rattle.std.proofs.Common.{◌≡◌}
use Rattle.programs.specs.Courses.{run}
use Rattle.programs.proofs.course.Course.run.Given as goal

-- a run of what is left, from here, is the whole run
abbrev pub invariant-loop-left : goal.invariant-loop-left
invariant-loop-left l = run l.left l.course ≡ run 1000000 l.fn.self

abbrev pub decreases-loop-left : goal.decreases-loop-left
decreases-loop-left l = l.left

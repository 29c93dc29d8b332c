use Rattle.std.proofs.Common.{◌≡◌, ◌<◌, ◌≤◌, ◌+◌, ◌^◌, vec_capacity}
use Rattle.model.specs.declared.limits.TheConstants.{MAX_LINE_BYTES}
use Rattle.lines.specs.Doing.{DoesBy}
use Rattle.driver.proofs.Rounds.{SoFar}
use Rattle.driver.proofs.driving.drive_by.Given as goal

-- the lines so far have their rounds, and each took one of the calls that may still be made
abbrev pub invariant-loop-text : goal.invariant-loop-text
invariant-loop-text g l = record {
  room : MAX_LINE_BYTES ≤ vec_capacity l.held;
  read_same : l.reader.failed ≡ l.fn.reader.failed;
  write_same : l.writer.failed ≡ l.fn.writer.failed;
  within : l.count + l.reader.left < 2 ^ 64;
  driven : SoFar (DoesBy g.F.Fn l.fn.step) (g.R.Read.remaining l.fn.reader.inner) (g.R.Read.remaining l.reader.inner)
      (g.W.Write.contents l.fn.writer.inner) (g.W.Write.contents l.writer.inner) l.fn.book l.book l.count;
}

-- each line takes one of the calls that may still be made
abbrev pub decreases-loop-text : goal.decreases-loop-text
decreases-loop-text g l = l.reader.left

use Rattle.std.proofs.Common.{◌≡◌, ◌≤◌, List, ℕ, vec_capacity}
use Rattle.model.specs.declared.limits.TheConstants.{MAX_LINE_BYTES}
use Rattle.lines.specs.Lines.{LinesRead}
use Rattle.lines.specs.Feeds.{AreReadings}
use Rattle.lines.proofs.feed.read_feed.Given as goal

abbrev pub invariant-loop-found : goal.invariant-loop-found
invariant-loop-found g l = record {
  room : MAX_LINE_BYTES ≤ vec_capacity l.held;
  same : l.reader.failed ≡ l.fn.reader.failed;
  read : (lines : List (List ℕ)) × LinesRead (g.R.Read.remaining l.fn.reader.inner)
      (g.R.Read.remaining l.reader.inner) lines × AreReadings lines l.found.items;
}

-- each line takes one of the calls that may still be made
abbrev pub decreases-loop-found : goal.decreases-loop-found
decreases-loop-found g l = l.reader.left

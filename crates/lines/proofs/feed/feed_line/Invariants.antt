use Rattle.std.proofs.Common.{◌≡◌, ◌≤◌, List, ℕ, vec_capacity}
use Rattle.std.specs.Io.KnownBytes.{Consumes}
use Rattle.model.specs.declared.limits.TheConstants.{MAX_LINE_BYTES}
use Rattle.lines.specs.Lines.{IsPart, Holds}
use Rattle.lines.proofs.feed.feed_line.Given as goal

abbrev pub invariant-loop-held : goal.invariant-loop-held
invariant-loop-held g l = record {
  room : MAX_LINE_BYTES ≤ vec_capacity l.held;
  same : l.reader.failed ≡ l.fn.reader.failed;
  fewer : l.reader.left ≤ l.fn.reader.left;
  so_far : (text : List ℕ) × IsPart text × Consumes (g.R.Read.remaining l.fn.reader.inner)
      (g.R.Read.remaining l.reader.inner) text × Holds l.held.items l.is_long text;
}

-- each look at the reader is one of the calls that may still be made
abbrev pub decreases-loop-held : goal.decreases-loop-held
decreases-loop-held g l = l.reader.left

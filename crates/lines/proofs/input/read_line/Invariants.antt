use Rattle.std.proofs.Common.{◌≡◌, ◌≤◌, List, ℕ, vec_capacity}
use Rattle.std.specs.Io.KnownBytes.{Consumes, Keeps}
use Rattle.model.specs.declared.limits.TheConstants.{MAX_LINE_BYTES}
use Rattle.lines.specs.Lines.{IsPart, Holds}
use Rattle.lines.proofs.input.read_line.Given as goal

abbrev pub invariant-loop-ahead : goal.invariant-loop-ahead
invariant-loop-ahead g l = record {
  room : MAX_LINE_BYTES ≤ vec_capacity l.held;
  read_same : l.reader.failed ≡ l.fn.reader.failed;
  write_same : l.writer.failed ≡ l.fn.writer.failed;
  fewer : l.reader.left ≤ l.fn.reader.left;
  keeps : Keeps (g.W.Write.contents l.fn.writer.inner) (g.W.Write.contents l.writer.inner);
  so_far : (text : List ℕ) × IsPart text × Consumes (g.R.Read.remaining l.fn.reader.inner)
      (g.R.Read.remaining l.reader.inner) text × Holds l.held.items l.is_long text;
}

-- each look at the reader is one of the calls that may still be made
abbrev pub decreases-loop-ahead : goal.decreases-loop-ahead
decreases-loop-ahead g l = l.reader.left

use Rattle.std.proofs.Common.{◌≡◌, ◌<◌, ◌≤◌, ◌+◌, ◌^◌, List, ℕ, length, vec_capacity}
use Rattle.std.specs.Prelude.{flat_map}
use Rattle.std.specs.Io.KnownBytes.{Appends}
use Rattle.model.specs.declared.limits.TheConstants.{MAX_LINE_BYTES}
use Rattle.model.specs.declared.replies.Reply.{Reply}
use Rattle.lines.specs.Lines.{LinesRead}
use Rattle.lines.specs.Serving.{ServesBy, reply_line}
use Rattle.lines.specs.Doing.{DoesBy}
use Rattle.lines.proofs.serving.serve_by.Given as goal

-- the lines so far are answered, and each took one of the calls that may still be made
abbrev pub invariant-loop-text : goal.invariant-loop-text
invariant-loop-text g l = record {
  room : MAX_LINE_BYTES ≤ vec_capacity l.held;
  read_same : l.reader.failed ≡ l.fn.reader.failed;
  write_same : l.writer.failed ≡ l.fn.writer.failed;
  within : l.count + l.reader.left < 2 ^ 64;
  served : (lines : List (List ℕ)) × (replies : List Reply)
      × LinesRead (g.R.Read.remaining l.fn.reader.inner) (g.R.Read.remaining l.reader.inner) lines
      × ServesBy (DoesBy g.F.Fn l.fn.step) lines l.fn.book replies l.book
      × Appends (g.W.Write.contents l.fn.writer.inner) (g.W.Write.contents l.writer.inner) (flat_map reply_line replies)
      × (length lines ≡ l.count);
}

-- each line takes one of the calls that may still be made
abbrev pub decreases-loop-text : goal.decreases-loop-text
decreases-loop-text g l = l.reader.left

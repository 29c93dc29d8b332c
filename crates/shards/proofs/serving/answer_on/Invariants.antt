use Rattle.std.proofs.Common.{◌≡◌, ◌<◌, ◌≤◌, ◌+◌, ◌^◌, length, map, vec_capacity}
use Rattle.model.specs.declared.limits.TheConstants.{MAX_LINE_BYTES}
use Rattle.dealing.specs.Dealing.{OneDoes, dealt}
use Rattle.shards.specs.Blocks.{AreIdle, Tells}
use Rattle.shards.specs.Underway.{Underway}
use Rattle.shards.proofs.serving.answer_on.Given as goal

abbrev pub invariant-loop-is_end : goal.invariant-loop-is_end
invariant-loop-is_end g l = record {
  held : MAX_LINE_BYTES ≤ vec_capacity l.block.held;
  idle : AreIdle (map (λ s. s.steps.items) l.shards);
  read_same : l.reader.failed ≡ l.fn.reader.failed;
  write_same : l.writer.failed ≡ l.fn.writer.failed;
  within : l.block.count + l.reader.left < 2 ^ 64;
  underway : Underway (OneDoes (Tells g.H.Handler.meaning l.fn.drives) (dealt (length l.fn.shards)))
      (record {
        input = g.R.Read.remaining l.fn.reader.inner;
        out = g.W.Write.contents l.fn.writer.inner;
        hosts = map (λ s. s.host) l.fn.shards;
      })
      (record {
        input = g.R.Read.remaining l.reader.inner;
        out = g.W.Write.contents l.writer.inner;
        hosts = map (λ s. s.host) l.shards;
      })
      (record {
        held = l.block.held.items;
        is_long = l.block.is_long;
        lines = l.block.lines;
        count = l.block.count;
      });
}

-- each look at the reader is one of the calls that may still be made
abbrev pub decreases-loop-is_end : goal.decreases-loop-is_end
decreases-loop-is_end g l = l.reader.left

use Rattle.std.proofs.Common.{◌≡◌, drop, length}
use Rattle.shards.proofs.Telling.{Written}
use Rattle.shards.proofs.writing.write_all.Given as goal

-- the answers of the places so far are written, whatever they are
abbrev pub invariant-loop-place : goal.invariant-loop-place
invariant-loop-place g l = record {
  cursors : length l.cursors ≡ length l.shards;
  same : l.writer.failed ≡ l.fn.writer.failed;
  written : Written (λ s. s.bytes.items)
      (λ s. s.lens.items) (λ x. x.at) (λ x. x.next) l.shards l.places (drop l.place-index l.places) l.cursors
      (g.W.Write.contents l.fn.writer.inner) (g.W.Write.contents l.writer.inner);
}

use Rattle.std.proofs.Common.{◌≡◌, ◌+◌, length}
use Rattle.shards.specs.Kept.{AreReadFrom}
use Rattle.shards.proofs.reading.Reader.read.Given as goal

-- what was read so far is that of the lines up to this one
abbrev pub invariant-loop-at : goal.invariant-loop-at
invariant-loop-at l = record {
  so_far : AreReadFrom l.lines l.from l.self.found.items;
  count : l.from + length l.self.found.items ≡ l.at;
}

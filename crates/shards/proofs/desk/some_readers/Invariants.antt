use Rattle.std.proofs.Common.{◌≡◌, length}
use Rattle.shards.proofs.desk.some_readers.Given as goal

abbrev pub invariant-loop-at : goal.invariant-loop-at
invariant-loop-at l = length l.readers.items ≡ l._at

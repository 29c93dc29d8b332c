use Rattle.std.proofs.Common.{◌≡◌, take}
use Rattle.shared_log.specs.Filled.{pairs_at}
use Rattle.snapshot.proofs.log.pairs_of.Given as goal

abbrev pub invariant-loop-place : goal.invariant-loop-place
invariant-loop-place l = l.pairs.items ≡ pairs_at l.log.records (take l.place-index l.places)

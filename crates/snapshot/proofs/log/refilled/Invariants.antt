use Rattle.std.proofs.Common.{◌≡◌}
use Rattle.shared_log.specs.Filled.{filled}
use Rattle.snapshot.proofs.log.refilled.Given as goal

abbrev pub invariant-loop-place : goal.invariant-loop-place
invariant-loop-place l = record {
  records : l.made.records ≡ filled l.count l.yielded;
  failures : l.made.failures ≡ 0;
}

use Rattle.std.proofs.Common.{◌≡◌, ◌+◌, drop}
use Rattle.compact.specs.Steps.{from_outside}
use Rattle.rollback.proofs.path.count_from_outside.Given as goal

-- those before this place and those from it on are all
abbrev pub invariant-loop-place : goal.invariant-loop-place
invariant-loop-place l =
    l.count + from_outside (drop l.place l.intervals.items) ≡ from_outside (drop l.from l.intervals.items)

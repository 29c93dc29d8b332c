use Rattle.std.proofs.Common.{◌≡◌, ◌++◌}
use Rattle.snapshot.proofs.unit.logged.Given as goal

-- what is there and what is to come is the same all along
abbrev pub invariant-loop-record : goal.invariant-loop-record
invariant-loop-record l = l.log.records ++ l.record-iterator.rest.items
    ≡ l.initial.log.records ++ l.initial.record-iterator.rest.items

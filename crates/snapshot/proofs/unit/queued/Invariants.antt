use Rattle.std.proofs.Common.{◌≡◌, ◌++◌}
use Rattle.snapshot.proofs.unit.queued.Given as goal

-- what is there and what is to come is the same all along
abbrev pub invariant-loop-interval : goal.invariant-loop-interval
invariant-loop-interval l = l.queue.items ++ l.interval-iterator.rest.items
    ≡ l.initial.queue.items ++ l.initial.interval-iterator.rest.items

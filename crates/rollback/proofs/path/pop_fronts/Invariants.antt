use Rattle.std.proofs.Common.{◌≡◌, drop}
use Rattle.rollback.proofs.path.pop_fronts.Given as goal

-- as many as were counted are gone
abbrev pub invariant-loop : goal.invariant-loop
invariant-loop l = l.intervals.items ≡ drop l.counter l.initial.intervals.items

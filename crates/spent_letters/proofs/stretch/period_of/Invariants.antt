use Rattle.std.proofs.Common.{◌≡◌, ◌-◌, ◌/◌, length}
use Rattle.spent_letters.specs.Stretches.{least_above, period}
use Rattle.spent_letters.proofs.stretch.period_of.Given as goal

-- it is the least of those that are left
abbrev pub invariant-loop-at : goal.invariant-loop-at
invariant-loop-at l = least_above l.head l.at (length l.head / 2 - l.at) ≡ period l.head

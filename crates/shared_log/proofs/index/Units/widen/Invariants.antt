use Rattle.std.proofs.Common.{◌≡◌, ◌≤◌, ◌-◌, ℕ, length}
use Rattle.shared_log.specs.Index.{of_unit}
use Rattle.shared_log.proofs.index.Units.widen.Given as goal

-- the lists are what they were, and no more than there are units
abbrev pub invariant-loop-alloc : goal.invariant-loop-alloc
invariant-loop-alloc l =
    ((unit : ℕ) → of_unit l.self-inside.units.items unit ≡ of_unit l.fn.self unit)
    × (length l.self-inside.units.items ≤ 256) × (l.count ≤ 256)

abbrev pub decreases-loop-alloc : goal.decreases-loop-alloc
decreases-loop-alloc l = l.count - length l.self-inside.units.items

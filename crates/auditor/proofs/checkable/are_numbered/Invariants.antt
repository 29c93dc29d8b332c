use Rattle.std.proofs.Common.{◌≡◌, ◌≤◌, ◌-◌, drop, length, map}
use Rattle.model.specs.Lists.{numbers_from}
use Rattle.auditor.proofs.checkable.are_numbered.Given as goal

abbrev pub invariant-loop-left : goal.invariant-loop-left
invariant-loop-left l = (l.left ≤ length l.seats)
    × (map (λ s. s.unit) (drop l.left l.seats) ≡ numbers_from l.left (length l.seats - l.left))

abbrev pub decreases-loop-left : goal.decreases-loop-left
decreases-loop-left l = l.left

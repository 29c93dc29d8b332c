use Rattle.std.proofs.Common.{◌≡◌, ◌≤◌, ◌-◌, Ok}
use Rattle.riscv.specs.Machines.{steps}
use Rattle.riscv.proofs.machine.Machine.run.Given as goal

-- all but those that are left were made
abbrev pub invariant-loop-left : goal.invariant-loop-left
invariant-loop-left l = (l.left ≤ l.most) × (steps (l.most - l.left) l.fn.self ≡ Ok l.self)

abbrev pub decreases-loop-left : goal.decreases-loop-left
decreases-loop-left l = l.left

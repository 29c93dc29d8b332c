use Rattle.std.proofs.Common.{◌≡◌}
use Rattle.riscv.proofs.memory.share_each.Given as goal

abbrev pub invariant-loop-i : goal.invariant-loop-i
invariant-loop-i l = l.pages ≡ l.fn.pages

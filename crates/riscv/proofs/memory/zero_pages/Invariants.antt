use Rattle.std.proofs.Common.{◌≡◌, replicate}
use Rattle.riscv.specs.Memories.{zero_page}
use Rattle.riscv.proofs.memory.zero_pages.Given as goal

abbrev pub invariant-loop : goal.invariant-loop
invariant-loop l = l.pages.items ≡ replicate l.counter zero_page

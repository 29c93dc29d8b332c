use Rattle.std.proofs.Common.{◌≡◌, take}
use Rattle.riscv.proofs.memory.copied.Given as goal

abbrev pub invariant-loop-page : goal.invariant-loop-page
invariant-loop-page l = l.copies.items ≡ take l.page-index l.pages

use Rattle.std.proofs.Common.{refl, arith}
use Rattle.riscv.proofs.Pages.{zeros_are}
use Rattle.riscv.proofs.memory.zero_pages.Goals as goal

pub returns : goal.returns
returns c = zeros_are c.loop.pages.items c.loop.counter 1024 c.loop.invariant (omega arith) refl

use Rattle.std.proofs.Common.{arith}
use Rattle.riscv.proofs.KeptCode.{unread_are}
use Rattle.riscv.proofs.predecoded.unread.Goals as goal

pub returns : goal.returns
returns c = unread_are c.loop.code.items c.loop.counter c.loop.invariant (omega arith)

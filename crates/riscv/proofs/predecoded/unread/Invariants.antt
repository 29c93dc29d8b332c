use Rattle.std.proofs.Common.{◌≡◌, replicate}
use Rattle.riscv.specs.declared.predecoded.Predecoded.TheVariants.{Unread}
use Rattle.riscv.proofs.predecoded.unread.Given as goal

abbrev pub invariant-loop : goal.invariant-loop
invariant-loop l = l.code.items ≡ replicate l.counter Unread

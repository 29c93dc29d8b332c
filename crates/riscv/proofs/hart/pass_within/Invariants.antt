use Rattle.std.proofs.Common.{◌≡◌, ◌<◌, ◌≤◌, ◌-◌, ◌/◌, ◌%◌, Ok}
use Rattle.riscv.specs.declared.predecoded.Predecoded.TheVariants.{Unread}
use Rattle.riscv.specs.Machines.{steps}
use Rattle.riscv.specs.Memories.{word_at}
use Rattle.riscv.specs.Predecoding.{Reads}
use Rattle.riscv.specs.Harts.{machine_of, Says}
use Rattle.riscv.proofs.hart.pass_within.Given as goal

-- all but those that are left were made, and the next instruction is of the same page, and read if it is the first
abbrev pub invariant-loop-apart : goal.invariant-loop-apart
invariant-loop-apart l = record {
  some : 0 < l.left;
  fewer : l.left ≤ l.most;
  made : steps (l.most - l.left) (machine_of l.fn.registers l.fn.from l.memory)
      ≡ Ok (machine_of l.registers l.counter l.memory);
  page : (l.page ≡ l.fn.from / 4096) × (l.counter / 4096 ≡ l.fn.from / 4096);
  inside : (l.counter % 4 ≡ 0) × (l.counter < 262144);
  says : 1 < l.most → Says l.code l.memory l.counter;
  reads : Reads l.instruction (word_at l.memory l.counter);
  first : l.instruction ≡ Unread → l.left < l.most;
}

abbrev pub decreases-loop-apart : goal.decreases-loop-apart
decreases-loop-apart l = l.left

use Rattle.std.proofs.Common.{◌≡◌, ◌++◌, List, ℕ, drop, take}
use Rattle.codec.specs.Codes.{AllFit, each_code}
use Rattle.riscv.specs.Memories.{Words, zeros}
use Rattle.programs.specs.Coding.{FitsMemory, FitsPage, page_code}
use Rattle.programs.proofs.memories.decode_pages.Given as goal

-- of a memory that fits, so many pages were put in the place of zeros, and the bytes of the others are left
abbrev pub invariant-loop-index : goal.invariant-loop-index
invariant-loop-index l = (v : Words) (rest : List ℕ) → FitsMemory v → l.initial.input ≡ each_code page_code v rest
    → (l.memory ≡ take l.index v ++ drop l.index zeros) × (l.input ≡ each_code page_code (drop l.index v) rest)
    × AllFit FitsPage (drop l.index v)

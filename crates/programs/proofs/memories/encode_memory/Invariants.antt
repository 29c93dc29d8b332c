use Rattle.std.proofs.Common.{◌≡◌, ◌++◌, ◌<◌, List, ℕ, drop, length}
use Rattle.codec.specs.Codes.{AllFit, each_code}
use Rattle.programs.specs.Coding.{FitsPage, page_code}
use Rattle.programs.proofs.memories.encode_memory.Given as goal

-- what was appended goes on with the bytes of the pages from this one on, and all fit if these do
abbrev pub invariant-loop-index : goal.invariant-loop-index
invariant-loop-index l = record {
  code : (rest : List ℕ) → l.out.items ++ each_code page_code (drop l.index l.memory) rest
      ≡ l.initial.out.items ++ each_code page_code l.memory rest;
  fits : AllFit FitsPage (drop l.index l.memory) → AllFit FitsPage l.memory;
  count : 0 < l.index → length l.memory ≡ 64;
}

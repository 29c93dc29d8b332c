-- Bytes of a memory.
use Rattle.std.proofs.Common.{◌≡◌, ℕ, zero, suc, ◌+◌, ap, refl, length}
use Rattle.riscv.specs.Memories.{Words, bytes_from}

-- as many as were asked for
pub length_of : (memory : Words) (address count : ℕ) → length (bytes_from memory address count) ≡ count
length_of memory address zero = refl
length_of memory address (suc count) = ap suc (length_of memory (address + 1) count)

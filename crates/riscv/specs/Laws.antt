-- What follows from the definitions.
use Rattle.std.specs.Prelude.{◌≡◌, ◌≢◌, ◌<◌, ℕ, ◌+◌, ◌-◌, ◌*◌, ◌%◌, ◌^◌, length, false, Some, Ok, ℤ, pos, negsuc, neg_ℤ}
use Rattle.std.specs.Prelude.{◌+ℤ◌, ◌*ℤ◌, ◌≤ℤ◌, ◌<ℤ◌, unsigned_abs}
use Rattle.riscv.specs.declared.machine.Machine.{Machine}
use Rattle.riscv.specs.declared.instruction.Instruction.{Instruction}
use Rattle.riscv.specs.declared.instruction.Instruction.TheVariants.{Lui, Auipc, Jal, Jalr, Branch, Load, Store, OpImm}
use Rattle.riscv.specs.declared.instruction.Instruction.TheVariants.{Op, Fence, Ecall, Ebreak}
use Rattle.riscv.specs.declared.instruction.Operation.TheVariants.{Div, Divu, Rem, Remu}
use Rattle.riscv.specs.declared.instruction.Reading.TheVariants.{Lb, Lh, Lw, Lbu, Lhu}
use Rattle.riscv.specs.declared.instruction.Writing.TheVariants.{Sb, Sh, Sw}
use Rattle.riscv.specs.Arithmetic.{value_of, signed, overflows}
use Rattle.riscv.specs.Decoding.{extended, rd, rs1, rs2, instruction_of}
use Rattle.riscv.specs.Memories.{Words, IsMemory, byte_at, word_at}
use Rattle.riscv.specs.Machines.{content, loaded, stored, stepped}

-- the bytes of an aligned word lie one behind the other, the lowest first
abbrev pub WordsAreBytes : Type 0
WordsAreBytes =
    (memory : Words) (address : ℕ) → address % 4 ≡ 0 → word_at memory address < 2 ^ 32 →
    word_at memory address ≡ byte_at memory address + byte_at memory (address + 1) * 0x100
    + byte_at memory (address + 2) * 0x10000 + byte_at memory (address + 3) * 0x1000000

-- x0 stays 0
abbrev pub ZeroStaysZero : Type 0
ZeroStaysZero =
    (m n : Machine) → 0 < length m.registers → content m 0 ≡ 0 → stepped m ≡ Ok n → content n 0 ≡ 0

-- a dividend is divisor times quotient plus remainder
abbrev pub UnsignedDivides : Type 0
UnsignedDivides = (a b : ℕ) → b ≢ 0 → value_of Divu a b * b + value_of Remu a b ≡ a

-- the remainder has the dividend's sign, or is 0
abbrev pub HasSignOf : ℤ → ℤ → Type 0
HasSignOf (pos n) (pos m) = Unit {0}
HasSignOf (pos n) (negsuc m) = n ≡ 0
HasSignOf (negsuc n) (pos m) = ⊥
HasSignOf (negsuc n) (negsuc m) = Unit {0}

-- The same of signed numbers, where the quotient is not too large. The remainder is smaller than the divisor, and has
-- the dividend's sign.
pub record DividesSigned (a b : ℕ) : Type 0 where
  pub sum : signed (value_of Div a b) *ℤ signed b +ℤ signed (value_of Rem a b) ≡ signed a
  pub size : unsigned_abs (signed (value_of Rem a b)) < unsigned_abs (signed b)
  pub sign : HasSignOf (signed (value_of Rem a b)) (signed a)

abbrev pub SignedDivides : Type 0
SignedDivides = (a b : ℕ) → a < 2 ^ 32 → b < 2 ^ 32 → b ≢ 0 → overflows a b ≡ false → DividesSigned a b

-- what was stored at an address is what is loaded there, extended by its sign or by zeros
abbrev pub BytesAreKept : Type 0
BytesAreKept =
    (memory after : Words) (address n : ℕ) → IsMemory memory → stored Sb memory address n ≡ Ok after →
    (loaded Lbu after address ≡ Ok (n % 2 ^ 8)) × (loaded Lb after address ≡ Ok (extended 8 (n % 2 ^ 8)))

abbrev pub HalvesAreKept : Type 0
HalvesAreKept =
    (memory after : Words) (address n : ℕ) → IsMemory memory → stored Sh memory address n ≡ Ok after →
    (loaded Lhu after address ≡ Ok (n % 2 ^ 16)) × (loaded Lh after address ≡ Ok (extended 16 (n % 2 ^ 16)))

abbrev pub WordsAreKept : Type 0
WordsAreKept =
    (memory after : Words) (address n : ℕ) → IsMemory memory → stored Sw memory address n ≡ Ok after →
    loaded Lw after address ≡ Ok n

-- a register is that of a field
pub record IsRegister (r field : ℕ) : Type 0 where
  pub named : r ≡ field
  pub below : r < 32

-- a number of 32 bits that is a signed number of so many bits
pub record IsExtended (count n : ℕ) : Type 0 where
  pub below : n < 2 ^ 32
  pub least : neg_ℤ (pos (2 ^ (count - 1))) ≤ℤ signed n
  pub most : signed n <ℤ pos (2 ^ (count - 1))

-- the same, and even
abbrev pub IsOffset : ℕ → ℕ → Type 0
IsOffset count n = IsExtended count n × (n % 2 ≡ 0)

-- a number of 32 bits whose lower 12 are 0
abbrev pub IsUpper : ℕ → Type 0
IsUpper n = (n < 2 ^ 32) × (n % 2 ^ 12 ≡ 0)

-- the operands of an instruction are those of the word: its registers are the fields, and its immediate is in its
-- format's range
abbrev pub HasOperandsOf : ℕ → Instruction → Type 0
HasOperandsOf w (Lui d n) = IsRegister d (rd w) × IsUpper n
HasOperandsOf w (Auipc d n) = IsRegister d (rd w) × IsUpper n
HasOperandsOf w (Jal d n) = IsRegister d (rd w) × IsOffset 21 n
HasOperandsOf w (Jalr d a n) = IsRegister d (rd w) × IsRegister a (rs1 w) × IsExtended 12 n
HasOperandsOf w (Branch c a b n) = IsRegister a (rs1 w) × IsRegister b (rs2 w) × IsOffset 13 n
HasOperandsOf w (Load r d a n) = IsRegister d (rd w) × IsRegister a (rs1 w) × IsExtended 12 n
HasOperandsOf w (Store s a b n) = IsRegister a (rs1 w) × IsRegister b (rs2 w) × IsExtended 12 n
HasOperandsOf w (OpImm o d a n) = IsRegister d (rd w) × IsRegister a (rs1 w) × IsExtended 12 n
HasOperandsOf w (Op o d a b) = IsRegister d (rd w) × IsRegister a (rs1 w) × IsRegister b (rs2 w)
HasOperandsOf w Fence = Unit {0}
HasOperandsOf w Ecall = Unit {0}
HasOperandsOf w Ebreak = Unit {0}

abbrev pub OperandsAreFields : Type 0
OperandsAreFields = (word : ℕ) (i : Instruction) → instruction_of word ≡ Some i → HasOperandsOf word i

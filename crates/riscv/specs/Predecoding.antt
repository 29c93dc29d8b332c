-- What the instructions mean that are kept beside the words of a page.
use Rattle.std.specs.Prelude.{◌≡◌, ◌≢◌, ◌<◌, ℕ, List, length, replicate, slice_index, slice_index_or, Option, Some}
use Rattle.std.specs.Prelude.{None}
use Rattle.riscv.specs.declared.instruction.Instruction.{Instruction}
use Rattle.riscv.specs.declared.instruction.Instruction.TheVariants as instruction
use Rattle.riscv.specs.declared.instruction.Comparison.TheVariants as comparison
use Rattle.riscv.specs.declared.instruction.Reading.TheVariants as reading
use Rattle.riscv.specs.declared.instruction.Writing.TheVariants as writing
use Rattle.riscv.specs.declared.instruction.Operation.TheVariants as operation
use Rattle.riscv.specs.declared.predecoded.Predecoded.{Predecoded}
use Rattle.riscv.specs.declared.predecoded.Predecoded.TheVariants.{Lui, Auipc, Jal, Jalr, Beq, Bne, Blt, Bge, Bltu}
use Rattle.riscv.specs.declared.predecoded.Predecoded.TheVariants.{Bgeu, Lb, Lh, Lw, Lbu, Lhu, Sb, Sh, Sw, Addi, Slli}
use Rattle.riscv.specs.declared.predecoded.Predecoded.TheVariants.{Slti, Sltiu, Xori, Srli, Srai, Ori, Andi, Add, Sub}
use Rattle.riscv.specs.declared.predecoded.Predecoded.TheVariants.{Sll, Slt, Sltu, Xor, Srl, Sra, Or, And, Mul, OpImm}
use Rattle.riscv.specs.declared.predecoded.Predecoded.TheVariants.{Op, Fence, Ecall, Ebreak, Illegal, Unread}
use Rattle.riscv.specs.declared.storage.Storage.{Storage}
use Rattle.riscv.specs.Decoding.{instruction_of}
use Rattle.riscv.specs.Storages.{items_of, words_of}

-- the instruction, or nothing where there is none
abbrev pub meaning : Predecoded → Option Instruction
meaning (Lui rd n) = Some (instruction.Lui rd n)
meaning (Auipc rd n) = Some (instruction.Auipc rd n)
meaning (Jal rd n) = Some (instruction.Jal rd n)
meaning (Jalr rd rs1 n) = Some (instruction.Jalr rd rs1 n)
meaning (Beq rs1 rs2 n) = Some (instruction.Branch comparison.Beq rs1 rs2 n)
meaning (Bne rs1 rs2 n) = Some (instruction.Branch comparison.Bne rs1 rs2 n)
meaning (Blt rs1 rs2 n) = Some (instruction.Branch comparison.Blt rs1 rs2 n)
meaning (Bge rs1 rs2 n) = Some (instruction.Branch comparison.Bge rs1 rs2 n)
meaning (Bltu rs1 rs2 n) = Some (instruction.Branch comparison.Bltu rs1 rs2 n)
meaning (Bgeu rs1 rs2 n) = Some (instruction.Branch comparison.Bgeu rs1 rs2 n)
meaning (Lb rd rs1 n) = Some (instruction.Load reading.Lb rd rs1 n)
meaning (Lh rd rs1 n) = Some (instruction.Load reading.Lh rd rs1 n)
meaning (Lw rd rs1 n) = Some (instruction.Load reading.Lw rd rs1 n)
meaning (Lbu rd rs1 n) = Some (instruction.Load reading.Lbu rd rs1 n)
meaning (Lhu rd rs1 n) = Some (instruction.Load reading.Lhu rd rs1 n)
meaning (Sb rs1 rs2 n) = Some (instruction.Store writing.Sb rs1 rs2 n)
meaning (Sh rs1 rs2 n) = Some (instruction.Store writing.Sh rs1 rs2 n)
meaning (Sw rs1 rs2 n) = Some (instruction.Store writing.Sw rs1 rs2 n)
meaning (Addi rd rs1 n) = Some (instruction.OpImm operation.Add rd rs1 n)
meaning (Slli rd rs1 n) = Some (instruction.OpImm operation.Sll rd rs1 n)
meaning (Slti rd rs1 n) = Some (instruction.OpImm operation.Slt rd rs1 n)
meaning (Sltiu rd rs1 n) = Some (instruction.OpImm operation.Sltu rd rs1 n)
meaning (Xori rd rs1 n) = Some (instruction.OpImm operation.Xor rd rs1 n)
meaning (Srli rd rs1 n) = Some (instruction.OpImm operation.Srl rd rs1 n)
meaning (Srai rd rs1 n) = Some (instruction.OpImm operation.Sra rd rs1 n)
meaning (Ori rd rs1 n) = Some (instruction.OpImm operation.Or rd rs1 n)
meaning (Andi rd rs1 n) = Some (instruction.OpImm operation.And rd rs1 n)
meaning (Add rd rs1 rs2) = Some (instruction.Op operation.Add rd rs1 rs2)
meaning (Sub rd rs1 rs2) = Some (instruction.Op operation.Sub rd rs1 rs2)
meaning (Sll rd rs1 rs2) = Some (instruction.Op operation.Sll rd rs1 rs2)
meaning (Slt rd rs1 rs2) = Some (instruction.Op operation.Slt rd rs1 rs2)
meaning (Sltu rd rs1 rs2) = Some (instruction.Op operation.Sltu rd rs1 rs2)
meaning (Xor rd rs1 rs2) = Some (instruction.Op operation.Xor rd rs1 rs2)
meaning (Srl rd rs1 rs2) = Some (instruction.Op operation.Srl rd rs1 rs2)
meaning (Sra rd rs1 rs2) = Some (instruction.Op operation.Sra rd rs1 rs2)
meaning (Or rd rs1 rs2) = Some (instruction.Op operation.Or rd rs1 rs2)
meaning (And rd rs1 rs2) = Some (instruction.Op operation.And rd rs1 rs2)
meaning (Mul rd rs1 rs2) = Some (instruction.Op operation.Mul rd rs1 rs2)
meaning (OpImm o rd rs1 n) = Some (instruction.OpImm o rd rs1 n)
meaning (Op o rd rs1 rs2) = Some (instruction.Op o rd rs1 rs2)
meaning Fence = Some instruction.Fence
meaning Ecall = Some instruction.Ecall
meaning Ebreak = Some instruction.Ebreak
meaning Illegal = None
meaning Unread = None

-- a page of which nothing was read
unfoldable pub unread_words : ℕ → List Predecoded
unread_words size = replicate size Unread

abbrev pub unread_page : List Predecoded
unread_page = unread_words 1024

-- what is kept of a word is what it says, where it was read
abbrev pub Reads : Predecoded → ℕ → Type 0
Reads p word = p ≢ Unread → meaning p ≡ instruction_of word

-- what is kept of the words of a page, one for each
pub record KeepsCode (code : List Predecoded) (words : List ℕ) : Type 0 where
  pub size : length code ≡ length words
  pub reads : (at : ℕ) → at < length words → Reads (slice_index_or code at Unread) (slice_index words at)

abbrev pub Decodes : Option (List Predecoded) → List ℕ → Type 0
Decodes None words = Unit {0}
Decodes (Some code) words = KeepsCode code words

-- the words of a page and the instructions beside them
pub record IsPage (words : Storage ℕ) (code : Storage Predecoded) : Type 0 where
  pub size : length (words_of words) ≡ 1024
  pub kept : Decodes (items_of code) (words_of words)

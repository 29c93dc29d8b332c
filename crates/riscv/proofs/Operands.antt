-- What a word says has the operands of the word.
use Rattle.std.proofs.Common.{◌≡◌, ◌<◌, ◌≤◌, ℕ, ◌+◌, ◌-◌, ◌*◌, ◌%◌, ◌^◌, ◌==◌, Bool, true, false, cond, refl, subst}
use Rattle.std.proofs.Common.{arith, Option, Some, None, option_map}
use Rattle.std.specs.Prelude.{nat_lt}
use Rattle.std.proofs.lemmas.Int.{ints}
use Rattle.std.proofs.lemmas.Bool.Decides.{Decides-ltb}
use Rattle.riscv.specs.declared.instruction.Instruction.{Instruction}
use Rattle.riscv.specs.declared.instruction.Instruction.TheVariants.{Lui, Auipc, Jal, Jalr, Branch, Load, Store, OpImm}
use Rattle.riscv.specs.declared.instruction.Instruction.TheVariants.{Op, Fence, Ecall, Ebreak}
use Rattle.riscv.specs.Decoding.{bits, extended, opcode, rd, rs1, rs2, funct3, funct7, immediate_i, immediate_s}
use Rattle.riscv.specs.Decoding.{immediate_b, immediate_u, immediate_j, comparison_at, reading_at, writing_at}
use Rattle.riscv.specs.Decoding.{operation_at, immediate_operation, branch_of, load_of, store_of, immediate_of}
use Rattle.riscv.specs.Decoding.{register_of, jump_of, fence_of, system_of, instruction_of}
use Rattle.riscv.specs.Laws.{IsRegister, IsExtended, IsOffset, IsUpper, HasOperandsOf, OperandsAreFields}
use borrow.Author.Tests.{ltb-false}

-- what holds of a number's extension, by its sign
by_sign : (P : ℕ → Type 0) (count m : ℕ) → (m < 2 ^ (count - 1) → P m)
    → (2 ^ (count - 1) ≤ m → P (m + (2 ^ 32 - 2 ^ count))) → P (extended count m)
by_sign P count m low high =
    elim (nat_lt m (2 ^ (count - 1))) as (λ b. nat_lt m (2 ^ (count - 1)) ≡ b
    → P (cond b m (m + (2 ^ 32 - 2 ^ count)))) [
      | true ↦ λ e.
          low ((Decides-ltb m (2 ^ (count - 1))).0 e)
      | false ↦ λ e. high (ltb-false m (2 ^ (count - 1)) e)
    ] refl

fits_12 : (m : ℕ) → m < 2 ^ 12 → IsExtended 12 (extended 12 m)
fits_12 m h = by_sign (IsExtended 12) 12 m
    (λ l. record { below = omega arith; least = omega (arith, ints); most = omega (arith, ints) })
    (λ l. record { below = omega arith; least = grind (arith, ints); most = grind (arith, ints) })

fits_13 : (m : ℕ) → m < 2 ^ 13 → m % 2 ≡ 0 → IsOffset 13 (extended 13 m)
fits_13 m h even = by_sign (IsOffset 13) 13 m
    (λ l. (record { below = omega arith; least = omega (arith, ints); most = omega (arith, ints) }, even))
    (λ l. (record { below = omega arith; least = grind (arith, ints); most = grind (arith, ints) }, omega arith))

fits_21 : (m : ℕ) → m < 2 ^ 21 → m % 2 ≡ 0 → IsOffset 21 (extended 21 m)
fits_21 m h even = by_sign (IsOffset 21) 21 m
    (λ l. (record { below = omega arith; least = omega (arith, ints); most = omega (arith, ints) }, even))
    (λ l. (record { below = omega arith; least = grind (arith, ints); most = grind (arith, ints) }, omega arith))

-- the registers and immediates of a word
rd_is : (w : ℕ) → IsRegister (rd w) (rd w)
rd_is w = record { named = refl; below = omega arith }

rs1_is : (w : ℕ) → IsRegister (rs1 w) (rs1 w)
rs1_is w = record { named = refl; below = omega arith }

rs2_is : (w : ℕ) → IsRegister (rs2 w) (rs2 w)
rs2_is w = record { named = refl; below = omega arith }

i_is : (w : ℕ) → IsExtended 12 (immediate_i w)
i_is w = fits_12 (bits w 20 12) (omega arith)

s_is : (w : ℕ) → IsExtended 12 (immediate_s w)
s_is w = fits_12 (bits w 25 7 * 2 ^ 5 + bits w 7 5) (omega arith)

b_is : (w : ℕ) → IsOffset 13 (immediate_b w)
b_is w = fits_13 (bits w 31 1 * 2 ^ 12 + bits w 7 1 * 2 ^ 11 + bits w 25 6 * 2 ^ 5 + bits w 8 4 * 2) (omega arith)
    (omega arith)

u_is : (w : ℕ) → IsUpper (immediate_u w)
u_is w = (omega arith, omega arith)

j_is : (w : ℕ) → IsOffset 21 (immediate_j w)
j_is w = fits_21 (bits w 31 1 * 2 ^ 20 + bits w 12 8 * 2 ^ 12 + bits w 20 1 * 2 ^ 11 + bits w 21 10 * 2) (omega arith)
    (omega arith)

-- where a word is an instruction, that has its operands
abbrev HasOf : ℕ → Option Instruction → Type 0
HasOf w None = Unit {0}
HasOf w (Some i) = HasOperandsOf w i

record Has (w : ℕ) (o : Option Instruction) : Type 0 where
  operands : HasOf w o

none : (w : ℕ) → Has w None
none w = record { operands = tt }

some : (w : ℕ) (i : Instruction) → HasOperandsOf w i → Has w (Some i)
some w i h = record { operands = h }

at_choice : (w : ℕ) (b : Bool) (x y : Option Instruction) → Has w x → Has w y → Has w (cond b x y)
at_choice w true x y f g = f
at_choice w false x y f g = g

at_map : {A : Type 0} (w : ℕ) (f : A → Instruction) (o : Option A) → ((x : A) → HasOperandsOf w (f x))
    → Has w (option_map f o)
at_map w f None h = none w
at_map w f (Some x) h = some w (f x) (h x)

branch_has : (w : ℕ) → Has w (branch_of w)
branch_has w = at_map w (λ c. Branch c (rs1 w) (rs2 w) (immediate_b w)) (comparison_at (funct3 w))
    (λ c. (rs1_is w, rs2_is w, b_is w))

load_has : (w : ℕ) → Has w (load_of w)
load_has w =
    at_map w (λ r. Load r (rd w) (rs1 w) (immediate_i w)) (reading_at (funct3 w)) (λ r. (rd_is w, rs1_is w, i_is w))

store_has : (w : ℕ) → Has w (store_of w)
store_has w = at_map w (λ s. Store s (rs1 w) (rs2 w) (immediate_s w)) (writing_at (funct3 w))
    (λ s. (rs1_is w, rs2_is w, s_is w))

immediate_has : (w : ℕ) → Has w (immediate_of w)
immediate_has w = at_map w (λ o. OpImm o (rd w) (rs1 w) (immediate_i w)) (immediate_operation (funct3 w) (funct7 w))
    (λ o. (rd_is w, rs1_is w, i_is w))

register_has : (w : ℕ) → Has w (register_of w)
register_has w = at_map w (λ o. Op o (rd w) (rs1 w) (rs2 w)) (operation_at (funct3 w) (funct7 w))
    (λ o. (rd_is w, rs1_is w, rs2_is w))

jump_has : (w : ℕ) → Has w (jump_of w)
jump_has w = at_choice w (funct3 w == 0) _ None
    (some w (Jalr (rd w) (rs1 w) (immediate_i w)) (rd_is w, rs1_is w, i_is w)) (none w)

fence_has : (w : ℕ) → Has w (fence_of w)
fence_has w = at_choice w (funct3 w == 0) _ None (some w Fence tt) (none w)

system_has : (w : ℕ) → Has w (system_of w)
system_has w =
    at_choice w (w == 0x73) _ _ (some w Ecall tt) (at_choice w (w == 0x100073) _ _ (some w Ebreak tt) (none w))

word_has : (w : ℕ) → Has w (instruction_of w)
unfolding instruction_of
word_has w =
    at_choice w (opcode w == 0x33) _ _ (register_has w) (
    at_choice w (opcode w == 0x13) _ _ (immediate_has w) (
    at_choice w (opcode w == 0x03) _ _ (load_has w) (
    at_choice w (opcode w == 0x23) _ _ (store_has w) (
    at_choice w (opcode w == 0x63) _ _ (branch_has w) (
    at_choice w (opcode w == 0x37) _ _ (some w (Lui (rd w) (immediate_u w)) (rd_is w, u_is w)) (
    at_choice w (opcode w == 0x17) _ _ (some w (Auipc (rd w) (immediate_u w)) (rd_is w, u_is w)) (
    at_choice w (opcode w == 0x6f) _ _ (some w (Jal (rd w) (immediate_j w)) (rd_is w, j_is w)) (
    at_choice w (opcode w == 0x67) _ _ (jump_has w) (
    at_choice w (opcode w == 0x0f) _ _ (fence_has w) (
    at_choice w (opcode w == 0x73) _ _ (system_has w) (none w)))))))))))

-- The operands of a decoded instruction are the fields of its word.
pub operands_are_fields : OperandsAreFields
operands_are_fields w i e = (subst (Has w) e (word_has w)).operands

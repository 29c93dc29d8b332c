-- The signed quotient and its remainder.
use Rattle.std.proofs.Common.{◌≡◌, ◌≢◌, ◌∙◌, ◌<◌, ◌≤◌, ℕ, zero, suc, ◌/◌, ◌%◌, ◌^◌, ◌==◌, true, false, ℤ, pos, negsuc}
use Rattle.std.proofs.Common.{neg_ℤ, refl, sym, ap, subst, arith, div-le_self}
use Rattle.std.specs.Prelude.{unsigned_abs}
use Rattle.std.specs.Int.{w32}
use Rattle.std.specs.Int.RustNames.{FitsSigned, int_div, int_rem}
use Rattle.std.proofs.lemmas.Int.{ints, to_z-of_z, of_z-to_z, quot-rem, rem_below}
use Rattle.std.proofs.lemmas.Nat.{div_below}
use Rattle.std.proofs.lemmas.Bool.Decides.{Decides-eqb}
use Rattle.riscv.specs.declared.instruction.Operation.TheVariants.{Div, Rem}
use Rattle.riscv.specs.Arithmetic.{signed, overflows, value_of}
use Rattle.riscv.specs.Laws.{HasSignOf, SignedDivides}
use lib.Signed.{mag, mag_rem}
use mir.Val.{of_z}

-- Numbers that differ are not found equal.
pub apart : (m n : ℕ) → m ≢ n → (m == n) ≡ false
apart m n ne = elim (m == n) as (λ v. (m == n) ≡ v
    → v ≡ false) [ true ↦ λ e. absurd (ne ((Decides-eqb m n).0 e)) | false ↦ λ e. refl ] refl

-- a number read by its sign is in the range of 32 bits
signed_small : (n : ℕ) → n < 2 ^ 32 → mag (signed n) < 2 ^ 31
signed_small n h = grind (arith, ints)

signed_some : (n : ℕ) → n < 2 ^ 32 → n ≢ 0 → 0 < unsigned_abs (signed n)
signed_some n h ne = grind (arith, ints)

negated_small : (n : ℕ) → n ≤ 2 ^ 31 → mag (neg_ℤ (pos n)) < 2 ^ 31
negated_small zero h = omega arith
negated_small (suc n) h = omega arith

-- the quotient is in that range too, but for that of the least number by -1
quotient_small : (x y : ℤ) → mag x < 2 ^ 31 → (x ≡ negsuc 2147483647 → y ≢ negsuc 0) → mag (int_div x y) < 2 ^ 31
quotient_small (pos a) (pos b) h f = omega (arith, div-le_self a b)
quotient_small (pos a) (negsuc b) h f = negated_small (a / suc b) (omega (arith, div-le_self a (suc b)))
quotient_small (negsuc a) (pos b) h f = negated_small (suc a / b) (omega (arith, div-le_self (suc a) b))
quotient_small (negsuc a) (negsuc zero) h f =
    let other : a ≢ 2147483647 = λ e. f (ap negsuc e) refl in
    omega (arith, div-le_self (suc a) 1)
quotient_small (negsuc a) (negsuc (suc b)) h f = div_below (suc a) (suc (suc b)) (2 ^ 31) (omega arith) (omega arith)

not_overflowing : (a b : ℕ) → a < 2 ^ 32 → b < 2 ^ 32 → overflows a b ≡ false → signed a ≡ negsuc 2147483647
    → signed b ≢ negsuc 0
not_overflowing a b ha hb other e f =
    let a_is : a ≡ 2147483648 = sym (of_z-to_z w32 a ha) ∙ ap (of_z w32) e in
    let b_is : b ≡ 4294967295 = sym (of_z-to_z w32 b hb) ∙ ap (of_z w32) f in
    let both : overflows a b ≡ true = rw (a_is, b_is) refl in
    absurd (cc)

negated_sign : (r a : ℕ) → HasSignOf (neg_ℤ (pos r)) (negsuc a)
negated_sign zero a = refl
negated_sign (suc r) a = tt

remainder_sign : (x y : ℤ) → HasSignOf (int_rem x y) x
remainder_sign (pos a) y = tt
remainder_sign (negsuc a) y = negated_sign (suc a % unsigned_abs y) a

-- Signed quotient and remainder make up the dividend, where the divisor isn't 0 and nothing overflows.
pub signed_divides : SignedDivides
signed_divides a b ha hb ne other =
    let test : (b == 0) ≡ false = apart b 0 ne in
    let small : mag (signed a) < 2 ^ 31 = signed_small a ha in
    let q_fits : FitsSigned w32 (int_div (signed a) (signed b)) =
    record { sfits = quotient_small (signed a) (signed b) small (not_overflowing a b ha hb other) } in
    let r_fits : FitsSigned w32 (int_rem (signed a) (signed b)) =
    record { sfits = omega (arith, small, mag_rem (signed a) (signed b)) } in
    let q : signed (value_of Div a b) ≡ int_div (signed a) (signed b) =
    rw (test, other) (to_z-of_z w32 (int_div (signed a) (signed b)) q_fits) in
    let r : signed (value_of Rem a b) ≡ int_rem (signed a) (signed b) =
    rw (test, other) (to_z-of_z w32 (int_rem (signed a) (signed b)) r_fits) in
    record {
      sum = rw (q, r) (quot-rem (signed a) (signed b));
      size = rw r (rem_below (signed a) (signed b) (signed_some b hb ne));
      sign = subst (λ z. HasSignOf z (signed a)) (sym r) (remainder_sign (signed a) (signed b));
    }

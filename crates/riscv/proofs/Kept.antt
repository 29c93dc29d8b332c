-- What was stored is loaded.
use Rattle.std.proofs.Common.{◌≡◌, ◌∙◌, ◌<◌, ℕ, zero, suc, ◌/◌, ◌%◌, ◌^◌, ◌==◌, Bool, true, false, cond, [], length}
use Rattle.std.proofs.Common.{get_or, set, refl, sym, ap, arith, Result, Ok, Err}
use Rattle.std.specs.Prelude.{nat_lt}
use Rattle.std.proofs.lemmas.List.{get_or-set_same}
use Rattle.std.proofs.lemmas.Bool.Decides.{Decides-eqb, Decides-ltb}
use Rattle.riscv.specs.declared.fault.Exception.{Exception}
use Rattle.riscv.specs.declared.fault.Exception.TheVariants.{StoreAddressMisaligned, StoreAccessFault}
use Rattle.riscv.specs.Bytes.{byte_in, half_in, with_byte, with_half}
use Rattle.riscv.specs.Memories.{Words, IsMemory, page_of, byte_at, half_at, word_at, put_byte, put_half, put_word}
use Rattle.riscv.specs.Laws.{BytesAreKept, HalvesAreKept, WordsAreKept}

-- what was tested where there is no error
passed : {A : Type 0} (b : Bool) (r : Result A Exception) (e : Exception) (x : A) → cond b r (Err e) ≡ Ok x
    → (b ≡ true) × (r ≡ Ok x)
passed true r e x h = (refl, h)
passed false r e x h = absurd (cc)

-- the word that was put at an address
word_kept : (memory : Words) (a w : ℕ) → IsMemory memory → a < 262144 → word_at (put_word memory a w) a ≡ w
word_kept memory a w is h =
    let within : a / 4096 < length memory = omega (arith, is.pages) in
    let long : length (page_of memory a) ≡ 1024 = is.words (a / 4096) [] within in
    let inside : a / 4 % 1024 < length (page_of memory a) = omega arith in
    let page : page_of (put_word memory a w) a ≡ set (page_of memory a) (a / 4 % 1024) w =
    get_or-set_same memory (a / 4096) (set (page_of memory a) (a / 4 % 1024) w) [] within in
    ap (λ p. get_or p (a / 4 % 1024) 0) page ∙ get_or-set_same (page_of memory a) (a / 4 % 1024) w 0 inside

byte_kept : (word n place : ℕ) → place < 4 → byte_in (with_byte word place n) place ≡ n % 2 ^ 8
byte_kept word n zero h = omega arith
byte_kept word n (suc zero) h = omega arith
byte_kept word n (suc (suc zero)) h = omega arith
byte_kept word n (suc (suc (suc zero))) h = omega arith
byte_kept word n (suc (suc (suc (suc k)))) h = absurd (omega arith)

half_kept : (word n place : ℕ) → place % 2 ≡ 0 → place < 4 → half_in (with_half word place n) place ≡ n % 2 ^ 16
half_kept word n zero e h = omega arith
half_kept word n (suc zero) e h = absurd (omega arith)
half_kept word n (suc (suc zero)) e h = omega arith
half_kept word n (suc (suc (suc zero))) e h = absurd (omega arith)
half_kept word n (suc (suc (suc (suc k)))) e h = absurd (omega arith)

-- A byte that was stored is what is loaded from there, extended by zeros or by its sign.
pub bytes_are_kept : BytesAreKept
bytes_are_kept memory after a n is h =
    let t = passed (nat_lt a 262144) (Ok (put_byte memory a n)) StoreAccessFault after h in
    let within : a < 262144 = (Decides-ltb a 262144).0 t.0 in
    let same : put_byte memory a n ≡ after = let e = t.1 in cc in
    let place : a % 4 < 4 = omega arith in
    let byte : byte_at after a ≡ n % 2 ^ 8 =
    ap (λ m. byte_at m a) (sym same)
    ∙ ap (λ w. byte_in w (a % 4)) (word_kept memory a (with_byte (word_at memory a) (a % 4) n) is within)
    ∙ byte_kept (word_at memory a) n (a % 4) place in
    (rw (t.0, byte) refl, rw (t.0, byte) refl)

-- A halfword that was stored is what is loaded from there, extended by zeros or by its sign.
pub halves_are_kept : HalvesAreKept
halves_are_kept memory after a n is h =
    let s = passed (a % 2 == 0)
    (cond (nat_lt a 262144) (Ok (put_half memory a n)) (Err StoreAccessFault)) StoreAddressMisaligned after h in
    let t = passed (nat_lt a 262144) (Ok (put_half memory a n)) StoreAccessFault after s.1 in
    let within : a < 262144 = (Decides-ltb a 262144).0 t.0 in
    let even : a % 2 ≡ 0 = (Decides-eqb (a % 2) 0).0 s.0 in
    let same : put_half memory a n ≡ after = let e = t.1 in cc in
    let place : a % 4 < 4 = omega arith in
    let aligned : a % 4 % 2 ≡ 0 = omega arith in
    let half : half_at after a ≡ n % 2 ^ 16 =
    ap (λ m. half_at m a) (sym same)
    ∙ ap (λ w. half_in w (a % 4)) (word_kept memory a (with_half (word_at memory a) (a % 4) n) is within)
    ∙ half_kept (word_at memory a) n (a % 4) aligned place in
    (rw (s.0, t.0, half) refl, rw (s.0, t.0, half) refl)

-- A word that was stored is what is loaded from there.
pub words_are_kept : WordsAreKept
words_are_kept memory after a n is h =
    let s = passed (a % 4 == 0)
    (cond (nat_lt a 262144) (Ok (put_word memory a n)) (Err StoreAccessFault)) StoreAddressMisaligned after h in
    let t = passed (nat_lt a 262144) (Ok (put_word memory a n)) StoreAccessFault after s.1 in
    let within : a < 262144 = (Decides-ltb a 262144).0 t.0 in
    let same : put_word memory a n ≡ after = let e = t.1 in cc in
    let word : word_at after a ≡ n = ap (λ m. word_at m a) (sym same) ∙ word_kept memory a n is within in
    rw (s.0, t.0, word) refl

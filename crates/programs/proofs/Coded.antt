-- The bytes of a page, and pages in the place of zeros.
use Rattle.std.proofs.Common.{◌≡◌, ◌≢◌, refl, sym, ap, ℕ, zero, suc, ◌<◌, true, false, cond, List, [], ◌∷◌}
use Rattle.std.proofs.Common.{◌++◌, length, take, drop, get_or, arith, Bool, lit<}
use Rattle.std.specs.Prelude.{slice_set}
use Rattle.std.specs.Str.{bytes_eq}
use Rattle.std.proofs.lemmas.Bool.{false_from_ne_true}
use Rattle.std.proofs.lemmas.Slice.Eq.{bytes_eq-Decides}
use Rattle.codec.specs.Codes.{AllFit, each_code}
use Rattle.riscv.specs.Memories.{zero_page, zero_words}
use Rattle.riscv.proofs.Pages.{length_zero_page}
use Rattle.programs.specs.Coding.{FitsPage, FitsWord, page_code, word_code}

-- A page of zeros is the byte 0.
pub zeros_code : (page rest : List ℕ) → page ≡ zero_page → page_code page rest ≡ 0 ∷ rest
zeros_code page rest e =
    ap (λ b. cond b (0 ∷ rest) (1 ∷ each_code word_code page rest)) ((bytes_eq-Decides page zero_page).1 e)

-- Another page is the byte 1 and its words.
pub words_code : (page rest : List ℕ) → page ≢ zero_page → page_code page rest ≡ 1 ∷ each_code word_code page rest
words_code page rest h =
    ap (λ b. cond b (0 ∷ rest) (1 ∷ each_code word_code page rest))
    (false_from_ne_true (bytes_eq page zero_page) (λ e. h ((bytes_eq-Decides page zero_page).0 e)))

by_zero : (b : Bool) (xs ys new : List ℕ) → 0 ∷ new ≡ cond b (0 ∷ xs) (1 ∷ ys) → (b ≡ true) × (xs ≡ new)
by_zero true xs ys new e = (refl, cc)
by_zero false xs ys new e = cc

-- What begins with the byte 0 is a page of zeros.
pub zeros_read : (page rest new : List ℕ) → 0 ∷ new ≡ page_code page rest → (page ≡ zero_page) × (rest ≡ new)
zeros_read page rest new e =
    let is = by_zero (bytes_eq page zero_page) rest (each_code word_code page rest) new e in
    ((bytes_eq-Decides page zero_page).0 is.0, is.1)

all_zeros_fit : (n : ℕ) → AllFit FitsWord (zero_words n)
unfolding zero_words
all_zeros_fit zero = tt
all_zeros_fit (suc n) = (lit< tt, all_zeros_fit n)

-- A page of zeros fits.
pub zeros_fit : FitsPage zero_page
zeros_fit = (length_zero_page, all_zeros_fit 1024)

-- Of pages of which those from a place on are others, that at the place is one of the others.
pub at_others : {X : Type 0} (xs ys : List X) (i : ℕ) (d : X)
    → i < length xs → length ys ≡ length xs → get_or (take i xs ++ drop i ys) i d ≡ get_or ys i d
at_others [] ys i d h l = absurd (omega (arith, h))
at_others (x ∷ xs) [] i d h l = absurd (omega (arith, l))
at_others (x ∷ xs) (y ∷ ys) zero d h l = refl
at_others (x ∷ xs) (y ∷ ys) (suc i) d h l = at_others xs ys i d (omega (arith, h)) (omega (arith, l))

-- One more is put in the place of the first of the others.
pub set_among_others : {X : Type 0} (xs ys : List X) (i : ℕ) (x : X) → i < length xs → length ys ≡ length xs
    → slice_set (take i xs ++ drop i ys) i x ≡ (take i xs ++ x ∷ []) ++ drop (suc i) ys
set_among_others [] ys i x h l = absurd (omega (arith, h))
set_among_others (z ∷ xs) [] i x h l = absurd (omega (arith, l))
set_among_others (z ∷ xs) (y ∷ ys) zero x h l = refl
set_among_others (z ∷ xs) (y ∷ ys) (suc i) x h l =
    ap (λ zs. z ∷ zs) (set_among_others xs ys i x (omega (arith, h)) (omega (arith, l)))

-- An item that is put in its own place changes nothing.
pub set_same : {X : Type 0} (xs : List X) (i : ℕ) (d x : X) → get_or xs i d ≡ x → slice_set xs i x ≡ xs
set_same [] i d x e = refl
set_same (y ∷ xs) zero d x e = ap (λ z. z ∷ xs) (sym e)
set_same (y ∷ xs) (suc i) d x e = ap (λ zs. y ∷ zs) (set_same xs i d x e)

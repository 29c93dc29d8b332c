-- Lists of which each item fits.
use Rattle.std.proofs.Common.{◌≡◌, sym, subst, ℕ, zero, suc, List, [], ◌∷◌, ◌++◌, reverse}
use Rattle.std.specs.Prelude.{Some, slice_get}
use Rattle.std.proofs.lemmas.Option.{same_Some}
use Rattle.std.proofs.lemmas.Grind.{reverse_onto}
use Rattle.codec.specs.Codes.{AllFit}

pub fit_append : {A : Type 0} (fits : A → Type 0) (xs ys : List A) → AllFit fits xs → AllFit fits ys
    → AllFit fits (xs ++ ys)
fit_append fits [] ys a b = b
fit_append fits (x ∷ xs) ys a b = (a.0, fit_append fits xs ys a.1 b)

pub fit_left : {A : Type 0} (fits : A → Type 0) (xs ys : List A) → AllFit fits (xs ++ ys) → AllFit fits xs
fit_left fits [] ys a = tt
fit_left fits (x ∷ xs) ys a = (a.0, fit_left fits xs ys a.1)

pub fit_right : {A : Type 0} (fits : A → Type 0) (xs ys : List A) → AllFit fits (xs ++ ys) → AllFit fits ys
fit_right fits [] ys a = a
fit_right fits (x ∷ xs) ys a = fit_right fits xs ys a.1

pub fit_at : {A : Type 0} (fits : A → Type 0) (xs : List A) (i : ℕ) (x : A) → AllFit fits xs → slice_get xs i ≡ Some x
    → fits x
fit_at fits [] i x a e = cc
fit_at fits (y ∷ xs) zero x a e = subst fits (same_Some y x e) a.0
fit_at fits (y ∷ xs) (suc i) x a e = fit_at fits xs i x a.1 e

pub fit_reverse : {A : Type 0} (fits : A → Type 0) (xs : List A) → AllFit fits xs → AllFit fits (reverse xs)
fit_reverse fits [] a = tt
fit_reverse fits (x ∷ xs) a =
    subst (AllFit fits) (sym (reverse_onto xs x []))
    (fit_append fits (reverse xs) (x ∷ []) (fit_reverse fits xs a.1) (a.0, tt))

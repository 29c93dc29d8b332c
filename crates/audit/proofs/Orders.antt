-- Workers whose units are numbered 0 upwards.
use Rattle.std.proofs.Common.{◌≡◌, refl, sym, ◌∙◌, ap, ℕ, zero, suc, ◌+◌, List, [], ◌∷◌, ◌++◌, length, map, arith}
use Rattle.std.specs.Prelude.{Some, slice_get, slice_set}
use Rattle.model.specs.Lists.{numbers_from}

-- In a list numbered from some number on, an element's number is that one plus its place.
pub numbered_at : {X : Type 0} (f : X → ℕ) (k : ℕ) (xs : List X) (i : ℕ) (x : X)
    → map f xs ≡ numbers_from k (length xs) → slice_get xs i ≡ Some x → f x ≡ k + i
numbered_at f k [] i x h e = cc
numbered_at f k (y ∷ xs) zero x h e = let q : y ≡ x = cc in let p : f y ≡ k = cc in let r : f x ≡ k = ap f (sym q)
    ∙ p in omega (arith, r)
numbered_at f k (y ∷ xs) (suc i) x h e =
    let rest : map f xs ≡ numbers_from (suc k) (length xs) = cc in
    let r = numbered_at f (suc k) xs i x rest e in
    omega (arith, r)

-- Setting an element to one of the same number leaves the numbers of a list as they are.
pub numbered_set : {X : Type 0} (f : X → ℕ) (xs : List X) (i : ℕ) (x y : X) → slice_get xs i ≡ Some x → f y ≡ f x
    → map f (slice_set xs i y) ≡ map f xs
numbered_set f [] i x y e g = refl
numbered_set f (z ∷ xs) zero x y e g = let q : z ≡ x = cc in ap (λ n. n ∷ map f xs) (g ∙ ap f (sym q))
numbered_set f (z ∷ xs) (suc i) x y e g = ap (λ ns. f z ∷ ns) (numbered_set f xs i x y e g)

-- A list with one more element at its end is longer by one.
pub length_more : {X : Type 0} (xs : List X) (y : X) → length (xs ++ y ∷ []) ≡ suc (length xs)
length_more [] y = refl
length_more (x ∷ xs) y = ap suc (length_more xs y)

-- A numbered list with one more element of the next number at its end is numbered.
pub numbered_more : {X : Type 0} (f : X → ℕ) (k : ℕ) (xs : List X) (y : X) → map f xs ≡ numbers_from k (length xs)
    → f y ≡ k + length xs → map f (xs ++ y ∷ []) ≡ numbers_from k (length (xs ++ y ∷ []))
numbered_more f k [] y h g = let e : f y ≡ k = omega (arith, g) in ap (λ n. n ∷ []) e
numbered_more f k (x ∷ xs) y h g =
    let first : f x ≡ k = cc in
    let rest : map f xs ≡ numbers_from (suc k) (length xs) = cc in
    let e : f y ≡ suc k + length xs = omega (arith, g) in
    rw first (ap (λ ns. k ∷ ns) (numbered_more f (suc k) xs y rest e))

-- Laws of lists.
use Rattle.std.proofs.Common.{◌≡◌, refl, sym, ◌∙◌, ap, ℕ, zero, suc, ◌-◌, List, [], ◌∷◌, ◌++◌, length, take, arith}
use Rattle.std.specs.Prelude.{Option, Some, None, option_map}
use Rattle.std.specs.Option.{is_some}
use Rattle.std.proofs.lemmas.Option.{same_Some}

-- a front of two lists
pub take_append : {X : Type 0} (n : ℕ) (xs ys : List X) → take n (xs ++ ys) ≡ take n xs ++ take (n - length xs) ys
take_append zero xs ys = let e : 0 - length xs ≡ 0 = omega arith in ap (λ k. take k ys) (sym e)
take_append (suc n) [] ys = let e : suc n - 0 ≡ suc n = omega arith in ap (λ k. take k ys) (sym e)
take_append (suc n) (x ∷ xs) ys =
    let e : suc n - suc (length xs) ≡ n - length xs = omega arith in
    ap (λ zs. x ∷ zs) (take_append n xs ys ∙ ap (λ k. take n xs ++ take k ys) (sym e))

-- the value of an option under a map
pub mapped : {P Q : Type 0} (f : P → Q) (o : Option P) (y : P)
    → ((p : P) → o ≡ Some p → y ≡ p) → (q : Q) → option_map f o ≡ Some q → f y ≡ q
mapped f None y h q e = cc
mapped f (Some p) y h q e = ap f (h p refl) ∙ same_Some (f p) q e

-- a map leaves it there
pub still_some : {P Q : Type 0} (f : P → Q) (o : Option P) → is_some o ≡ is_some (option_map f o)
still_some f None = refl
still_some f (Some p) = refl

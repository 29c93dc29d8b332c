-- The vector of a receipt.
use Rattle.std.proofs.Common.{◌≡◌, refl, ap, ◌∙◌, ℕ, sym, ◌<◌, ◌≤◌, List, [], ◌∷◌, length, take}
use Rattle.std.proofs.Common.{arith, min}
use Rattle.std.proofs.Common.{length-append}
use Rattle.std.proofs.lemmas.List.{length-replicate, take_all}
use native.Mathlib.Decide.{dec_lt}
use Rattle.model.specs.declared.names.Mark.{Mark}
use Rattle.model.specs.World.{greater_mark}
use Rattle.depvector.specs.Vectors.{joined, widened}
use Rattle.depvector.proofs.Joins.{length-joined}

-- Entries for which the first vector has none are left out.
pub joined_first : (own other : List Mark) → joined own (take (length own) other) ≡ joined own other
joined_first [] [] = refl
joined_first [] (y ∷ other) = refl
joined_first (x ∷ own) [] = refl
joined_first (x ∷ own) (y ∷ other) = ap (λ r. greater_mark x y ∷ r) (joined_first own other)

-- A widened vector has an entry for each unit.
pub widened_long : (own : List Mark) (n : ℕ) → n ≤ length (widened own n)
widened_long own n = grind (arith, length-append, length-replicate)

-- So the unit's own entry is there after a join.
pub own_there : (own wide other new : List Mark) (n u : ℕ)
    → wide ≡ widened own n → new ≡ joined wide other → u < n → u < length new
own_there own wide other new n u is made h =
    let long = widened_long own n in
    let a : length wide ≡ length (widened own n) = ap length is in
    let b : length new ≡ length wide = ap length made ∙ length-joined wide other in
    omega (arith, long, a, b, h)

-- a front that is no longer than the list
take_less : (k : ℕ) (xs : List Mark) → take (min (length xs) k) xs ≡ take k xs
take_less k xs = elim (dec_lt (length xs) k) [
  | yes h ↦
      let e : min (length xs) k ≡ length xs = omega (arith, h) in
      ap (λ n. take n xs) e ∙ take_all (length xs) xs (omega arith) ∙ sym (take_all k xs (omega (arith, h)))
  | no h ↦ let e : min (length xs) k ≡ k = omega (arith, h) in ap (λ n. take n xs) e
]

-- What is joined of a front of the marks, as far as there are entries, is joined of all.
pub joined_known : (own sent : List Mark) (n k : ℕ)
    → n ≡ min (length sent) k → k ≡ length own → joined own (take n sent) ≡ joined own sent
joined_known own sent n k count long =
    ap (λ z. joined own (take z sent)) count ∙ ap (joined own) (take_less k sent)
    ∙ ap (λ z. joined own (take z sent)) long ∙ joined_first own sent

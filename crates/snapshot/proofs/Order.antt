-- Laws of lists of which each item has a relation to each behind it.
use Rattle.std.proofs.Common.{◌≡◌, sym, subst, ℕ, zero, suc, ◌<◌, List, [], ◌∷◌, ◌++◌, drop, take, length}
use Rattle.std.proofs.Common.{arith}
use Rattle.std.proofs.Common.{slice_index_or, bytes_eq}
use Rattle.std.specs.Prelude.{All, AllPairs, ◌≢◌}
use Rattle.std.specs.List.{IsDistinct}
use Rattle.std.proofs.lemmas.List.Elements.{All-append, All-nil, All-cons, All-head, All-tail}
use Rattle.std.proofs.lemmas.List.Kept.{AllPairs-cons}
use Rattle.std.proofs.lemmas.Map.Made.{AllPairs-from_IsDistinct}
use Rattle.std.proofs.lemmas.Slice.Eq.{bytes_eq-Decides}

pub AllPairs-nil : {X : Type 0} (R : X → X → Type 0) → AllPairs R []
AllPairs-nil R = λ i j d near far. absurd (omega (arith, far))

pub AllPairs-one : {X : Type 0} (R : X → X → Type 0) (x : X) → AllPairs R (x ∷ [])
AllPairs-one R x = AllPairs-cons R x [] (All-nil (R x)) (AllPairs-nil R)

pub AllPairs-head : {X : Type 0} (R : X → X → Type 0) (x : X) (xs : List X) → AllPairs R (x ∷ xs) → All (R x) xs
AllPairs-head R x xs all = λ k d h. all 0 (suc k) d (omega arith) (omega (arith, h))

pub AllPairs-tail : {X : Type 0} (R : X → X → Type 0) (x : X) (xs : List X) → AllPairs R (x ∷ xs) → AllPairs R xs
AllPairs-tail R x xs all = λ i j d near far. all (suc i) (suc j) d (omega (arith, near)) (omega (arith, far))

-- one list behind another
pub AllPairs-append : {X : Type 0} (R : X → X → Type 0) (xs ys : List X) → AllPairs R xs → AllPairs R ys
    → All (λ x. All (R x) ys) xs → AllPairs R (xs ++ ys)
AllPairs-append R [] ys first more across = more
AllPairs-append {X} R (x ∷ xs) ys first more across =
    let Q : X → Type 0 = λ x. All (R x) ys in
    AllPairs-cons R x (xs ++ ys)
    (All-append (R x) xs ys (AllPairs-head R x xs first) (All-head Q x xs across))
    (AllPairs-append R xs ys (AllPairs-tail R x xs first) more (All-tail Q x xs across))

pub AllPairs-drop : {X : Type 0} (R : X → X → Type 0) (xs : List X) (i : ℕ) → AllPairs R xs → AllPairs R (drop i xs)
AllPairs-drop R [] zero all = all
AllPairs-drop R [] (suc i) all = all
AllPairs-drop R (x ∷ xs) zero all = all
AllPairs-drop R (x ∷ xs) (suc i) all = AllPairs-drop R xs i (AllPairs-tail R x xs all)

-- Each item before this one has the relation to it.
pub before : {X : Type 0} (R : X → X → Type 0) (xs : List X) (i : ℕ) (y : X) → i < length xs
    → y ≡ slice_index_or xs i y → AllPairs R xs → All (λ x. R x y) (take i xs)
before R [] i y h is all = absurd (omega (arith, h))
before {X} R (x ∷ xs) zero y h is all = All-nil (λ (z : X). R z y)
before {X} R (x ∷ xs) (suc i) y h is all =
    All-cons (λ (z : X). R z y) x (take i xs)
    (subst (R x) (sym is) (AllPairs-head R x xs all i y (omega (arith, h))))
    (before R xs i y (omega (arith, h)) is (AllPairs-tail R x xs all))

-- No name comes again behind its place.
pub no_more : (names : List (List ℕ)) (i : ℕ) (name : List ℕ) (rest : List (List ℕ)) → IsDistinct bytes_eq names
    → drop i names ≡ name ∷ rest → All (λ (other : List ℕ). name ≢ other) rest
no_more names i name rest once e =
    AllPairs-head (λ x y. x ≢ y) name rest
    (subst (λ (xs : List (List ℕ)). AllPairs (λ x y. x ≢ y) xs) e
    (AllPairs-drop (λ x y. x ≢ y) names i (AllPairs-from_IsDistinct bytes_eq-Decides names once)))

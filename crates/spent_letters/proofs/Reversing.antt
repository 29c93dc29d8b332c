-- The last of a list is the first of the list that is read backwards.
use Rattle.std.proofs.Common.{◌≡◌, refl, ◌∙◌, ap, subst, suc, ◌-◌, ◌<◌, List, [], ◌∷◌, ◌++◌, length, arith}
use Rattle.std.specs.Prelude.{Some, None, true, false, reverse, slice_get, slice_set}
use Rattle.std.proofs.lemmas.List.{reverse-append}
use Rattle.std.proofs.lemmas.Grind.{reverse_onto}
use Rattle.std.proofs.lemmas.Option.{slice_get-get_or}

-- all but the last, and the last
pub record Ends {X : Type 0} (xs : List X) (s : X) : Type 0 where
  pub front : List X
  pub is : xs ≡ front ++ s ∷ []
  pub at : length xs - 1 ≡ length front

pub ends : {X : Type 0} (xs : List X) (s : X) → slice_get xs (length xs - 1) ≡ Some s → Ends xs s
ends [] s e = cc
ends (x ∷ []) s e = record { front = []; is = cc; at = refl }
ends {X} (x ∷ y ∷ ys) s e =
    let less : length (x ∷ y ∷ ys) - 1 ≡ suc (length (y ∷ ys) - 1) = omega (arith) in
    let there : slice_get (y ∷ ys) (length (y ∷ ys) - 1) ≡ Some s =
    subst (λ n. slice_get (x ∷ y ∷ ys) n ≡ Some s) less e in
    let rest : Ends (y ∷ ys) s = ends (y ∷ ys) s there in
    record {
      front = x ∷ rest.front;
      is = ap (λ (l : List X). x ∷ l) rest.is;
      at = less ∙ ap suc rest.at;
    }

pub reverse_more : {X : Type 0} (x : X) (xs : List X) → reverse (x ∷ xs) ≡ reverse xs ++ x ∷ []
reverse_more x xs = reverse_onto xs x []

-- The last is the first when it is read backwards,
pub last_first : {X : Type 0} (xs : List X) (s : X) (e : Ends xs s) → reverse xs ≡ s ∷ reverse e.front
last_first xs s e = ap reverse e.is ∙ reverse-append e.front (s ∷ [])

set_end : {X : Type 0} (front : List X) (s t : X) → slice_set (front ++ s ∷ []) (length front) t ≡ front ++ t ∷ []
set_end [] s t = refl
set_end {X} (x ∷ xs) s t = ap (λ (l : List X). x ∷ l) (set_end xs s t)

-- and so is one that takes its place.
pub last_set : {X : Type 0} (xs : List X) (s t : X) (e : Ends xs s)
    → reverse (slice_set xs (length xs - 1) t) ≡ t ∷ reverse e.front
last_set xs s t e =
    ap (λ n. reverse (slice_set xs n t)) e.at
    ∙ ap (λ l. reverse (slice_set l (length e.front) t)) e.is
    ∙ ap reverse (set_end e.front s t)
    ∙ reverse-append e.front (t ∷ [])

-- Where there is no last one there is none.
pub none_last : {X : Type 0} (xs : List X) → slice_get xs (length xs - 1) ≡ None → xs ≡ []
none_last [] e = refl
none_last (x ∷ xs) e =
    let t = slice_get-get_or (x ∷ xs) (length (x ∷ xs) - 1) x (omega (arith)) in
    cc

pub none_is : {X : Type 0} (xs : List X) → (0 < length xs → false ≡ true) → xs ≡ []
none_is [] h = refl
none_is (x ∷ xs) h = let t = h (omega (arith)) in cc

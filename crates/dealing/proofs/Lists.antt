-- Lists of which one element changes, and filters of filters.
use Rattle.std.proofs.Common.{◌≡◌, ◌<◌, ℕ, zero, suc, List, [], ◌∷◌, length, map, get_or, set, Bool, true, false, cond}
use Rattle.std.proofs.Common.{refl, sym, ap, ◌∙◌, arith}
use Rattle.std.specs.Prelude.{Some, slice_get}
use Rattle.std.specs.List.{filter}
use Rattle.std.proofs.lemmas.Bool.{true≢false}

module _ {X : Type 0} where
  -- An element that is set at a place within a list is there.
  pub get-set_same : (xs : List X) (i : ℕ) (v : X) → i < length xs → slice_get (set xs i v) i ≡ Some v
  get-set_same [] i v h = absurd (omega arith)
  get-set_same (x ∷ xs) zero v h = refl
  get-set_same (x ∷ xs) (suc i) v h = get-set_same xs i v (omega arith)

  -- Setting an element leaves what a list has at any other place.
  pub get-set_other : (xs : List X) (i j : ℕ) (v : X) → (i ≡ j → ⊥) → slice_get (set xs i v) j ≡ slice_get xs j
  get-set_other [] i j v ne = refl
  get-set_other (x ∷ xs) zero zero v ne = absurd (ne refl)
  get-set_other (x ∷ xs) zero (suc j) v ne = refl
  get-set_other (x ∷ xs) (suc i) zero v ne = refl
  get-set_other (x ∷ xs) (suc i) (suc j) v ne = get-set_other xs i j v (λ e. ne (ap suc e))

  -- A list has an element at each place below its length.
  pub get_within : (xs : List X) (i : ℕ) → i < length xs → (x : X) × (slice_get xs i ≡ Some x)
  get_within [] i h = absurd (omega arith)
  get_within (x ∷ xs) zero h = (x, refl)
  get_within (x ∷ xs) (suc i) h = get_within xs i (omega arith)

  -- lists of one length that have the same at each place are one list
  pub same_at_each : (xs ys : List X) → length ys ≡ length xs
      → ((i : ℕ) (x y : X) → slice_get xs i ≡ Some x → slice_get ys i ≡ Some y → y ≡ x) → ys ≡ xs
  same_at_each [] [] long same = refl
  same_at_each [] (y ∷ ys) long same = absurd (omega arith)
  same_at_each (x ∷ xs) [] long same = absurd (omega arith)
  same_at_each (x ∷ xs) (y ∷ ys) long same =
      let head : y ≡ x = same 0 x y refl refl in
      let tail : ys ≡ xs = same_at_each xs ys (omega arith) (λ i. same (suc i)) in
      (λ k. head k ∷ tail k)

  filter-within_at : (p q : X → Bool) (x : X) (xs : List X) (a b : Bool) → p x ≡ a → q x ≡ b → (p x ≡ true → q x ≡ true)
      → filter p (filter q xs) ≡ filter p xs → filter p (filter q (x ∷ xs)) ≡ filter p (x ∷ xs)
  filter-within_at p q x xs true true e f within rest =
      ap (λ c. filter p (cond c (x ∷ filter q xs) (filter q xs))) f
      ∙ ap (λ c. cond c (x ∷ filter p (filter q xs)) (filter p (filter q xs))) e
      ∙ ap (λ l. x ∷ l) rest
      ∙ ap (λ c. cond c (x ∷ filter p xs) (filter p xs)) (sym e)
  filter-within_at p q x xs true false e f within rest = let g : q x ≡ true = within e in
      absurd (true≢false (sym g ∙ f))
  filter-within_at p q x xs false true e f within rest =
      ap (λ c. filter p (cond c (x ∷ filter q xs) (filter q xs))) f
      ∙ ap (λ c. cond c (x ∷ filter p (filter q xs)) (filter p (filter q xs))) e
      ∙ rest
      ∙ ap (λ c. cond c (x ∷ filter p xs) (filter p xs)) (sym e)
  filter-within_at p q x xs false false e f within rest =
      ap (λ c. filter p (cond c (x ∷ filter q xs) (filter q xs))) f
      ∙ rest
      ∙ ap (λ c. cond c (x ∷ filter p xs) (filter p xs)) (sym e)

  -- what passes the first test passes the second
  pub filter-within : (p q : X → Bool)
      → ((x : X) → p x ≡ true → q x ≡ true) → (xs : List X) → filter p (filter q xs) ≡ filter p xs
  filter-within p q within [] = refl
  filter-within p q within (x ∷ xs) =
      filter-within_at p q x xs (p x) (q x) refl refl (within x) (filter-within p q within xs)

module _ {X Y : Type 0} where
  filter-map_at : (p : Y → Bool) (f : X → Y) (x : X) (xs : List X) (b : Bool)
      → p (f x) ≡ b → filter p (map f xs) ≡ map f (filter (λ y. p (f y)) xs)
      → filter p (map f (x ∷ xs)) ≡ map f (filter (λ y. p (f y)) (x ∷ xs))
  filter-map_at p f x xs true e rest =
      ap (λ c. cond c (f x ∷ filter p (map f xs)) (filter p (map f xs))) e
      ∙ ap (λ l. f x ∷ l) rest
      ∙ ap (λ c. map f (cond c (x ∷ filter (λ y. p (f y)) xs) (filter (λ y. p (f y)) xs))) (sym e)
  filter-map_at p f x xs false e rest =
      ap (λ c. cond c (f x ∷ filter p (map f xs)) (filter p (map f xs))) e
      ∙ rest
      ∙ ap (λ c. map f (cond c (x ∷ filter (λ y. p (f y)) xs) (filter (λ y. p (f y)) xs))) (sym e)

  -- The images that pass a test are those of the elements whose images pass it.
  pub filter-map : (p : Y → Bool) (f : X → Y) (xs : List X) → filter p (map f xs) ≡ map f (filter (λ x. p (f x)) xs)
  filter-map p f [] = refl
  filter-map p f (x ∷ xs) = filter-map_at p f x xs (p (f x)) refl (filter-map p f xs)

  -- one element changes, and what is seen of it does not
  pub map-set_kept : (f : X → Y) (xs : List X) (i : ℕ) (x v : X)
      → x ≡ get_or xs i x → i < length xs → f v ≡ f x → map f (set xs i v) ≡ map f xs
  map-set_kept f [] i x v is within same = absurd (omega arith)
  map-set_kept f (y ∷ xs) zero x v is within same = ap (λ z. z ∷ map f xs) (same ∙ ap f is)
  map-set_kept f (y ∷ xs) (suc i) x v is within same = ap (λ l. f y ∷ l) (map-set_kept f xs i x v is (omega arith) same)

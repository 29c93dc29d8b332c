-- Laws of lists of values by place.
use Rattle.std.proofs.Common.{◌≡◌, refl, sym, ◌∙◌, ap, subst, ℕ, zero, suc, ◌+◌, ◌-◌, List, [], ◌∷◌, ◌++◌, length}
use Rattle.std.proofs.Common.{length-append, take, replicate, arith, slice_get, slice_set}
use Rattle.std.proofs.Math.Seq.{take-append_seam}
use Rattle.std.proofs.lemmas.Option.{same_Some}
use Rattle.std.specs.Prelude.{◌<◌, ◌≤◌, Option, Some, None, Bool, true, false, IsSome, is_some}
use Rattle.shared_log.specs.Records.{tabled, tabled_from}

tabled_same : {X : Type 0} (f g : ℕ → X) (at n : ℕ)
    → ((i : ℕ) → at ≤ i → i < at + n → f i ≡ g i) → tabled_from f at n ≡ tabled_from g at n
tabled_same f g at zero h = refl
tabled_same {X = X} f g at (suc n) h =
    ap (λ (x : X). x ∷ tabled_from f (at + 1) n) (h at (omega arith) (omega arith))
    ∙ ap (λ (xs : List X). g at ∷ xs) (tabled_same f g (at + 1) n (λ i a b. h i (omega (arith, a)) (omega (arith, b))))

tabled_more : {X : Type 0} (f : ℕ → X) (at n : ℕ) → tabled_from f at (suc n) ≡ tabled_from f at n ++ f (at + n) ∷ []
tabled_more {X = X} f at zero = ap (λ (i : ℕ). f i ∷ []) (let e : at ≡ at + 0 = omega arith in e)
tabled_more {X = X} f at (suc n) =
    ap (λ (xs : List X). f at ∷ xs) (tabled_more f (at + 1) n
    ∙ ap (λ (i : ℕ). tabled_from f (at + 1) n ++ f i ∷ []) (let e : (at + 1) + n ≡ at + suc n = omega arith in e))

tabled_get : {X : Type 0} (f : ℕ → X) (at n i : ℕ) → i < n → slice_get (tabled_from f at n) i ≡ Some (f (at + i))
tabled_get f at zero i h = absurd (omega (arith, h))
tabled_get f at (suc n) zero h = ap (λ (i : ℕ). Some (f i)) (let e : at ≡ at + 0 = omega arith in e)
tabled_get f at (suc n) (suc i) h = tabled_get f (at + 1) n i (omega (arith, h))
    ∙ ap (λ (j : ℕ). Some (f j)) (let e : (at + 1) + i ≡ at + suc i = omega arith in e)

tabled_length : {X : Type 0} (f : ℕ → X) (at n : ℕ) → length (tabled_from f at n) ≡ n
tabled_length f at zero = refl
tabled_length f at (suc n) = ap suc (tabled_length f (at + 1) n)

-- one more value
pub tabled_push : {X : Type 0} (f g : ℕ → X) (n : ℕ) (x : X)
    → ((i : ℕ) → (i ≡ n → ⊥) → g i ≡ f i) → g n ≡ x → tabled g (n + 1) ≡ tabled f n ++ x ∷ []
tabled_push {X = X} f g n x h e =
    let s : n + 1 ≡ suc n = omega arith in
    let z : 0 + n ≡ n = omega arith in
    ap (tabled_from g 0) s
    ∙ (tabled_more g 0 n
    ∙ (ap (λ (i : ℕ). tabled_from g 0 n ++ g i ∷ []) z
    ∙ (ap (λ (y : X). tabled_from g 0 n ++ y ∷ []) e
    ∙ ap (λ (xs : List X). xs ++ x ∷ []) (tabled_same g f 0 n (λ i a b. h i (λ s. omega (arith, b, s)))))))

-- the values before a place, which is all that changes
pub tabled_kept : {X : Type 0} (f g : ℕ → X) (n : ℕ) (now : List X)
    → ((i : ℕ) → (i ≡ n → ⊥) → g i ≡ f i) → tabled f n ≡ now → tabled g n ≡ now
tabled_kept f g n now h e = tabled_same g f 0 n (λ i a b. h i (λ s. omega (arith, b, s))) ∙ e

-- a list with one value more, without its last
pub take_front : {X : Type 0} (front : List X) (x : X) → take (length (front ++ x ∷ []) - 1) (front ++ x ∷ []) ≡ front
take_front {X = X} front x =
    let n = length-append front (x ∷ []) in
    let e : length (front ++ x ∷ []) - 1 ≡ length front = omega (arith, n) in
    ap (λ (n : ℕ). take n (front ++ x ∷ [])) e ∙ take-append_seam front (x ∷ [])

-- one value less
pub tabled_back : {X : Type 0} (f g : ℕ → X) (n last : ℕ) (now : List X) → n ≡ last + 1
    → ((i : ℕ) → (i ≡ last → ⊥) → g i ≡ f i) → tabled f n ≡ now → tabled g last ≡ take (length now - 1) now
tabled_back {X = X} f g n last now is h e =
    let s : n ≡ suc last = omega (arith, is) in
    let z : 0 + last ≡ last = omega arith in
    let front : now ≡ tabled f last ++ f (0 + last) ∷ [] = sym e ∙ (ap (tabled_from f 0) s ∙ tabled_more f 0 last) in
    tabled_same g f 0 last (λ i a b. h i (λ s. omega (arith, b, s)))
    ∙ sym (ap (λ (xs : List X). take (length xs - 1) xs) front ∙ take_front (tabled f last) (f (0 + last)))

-- a value read
pub tabled_at : {X : Type 0} (f : ℕ → X) (n i : ℕ) → i < n → slice_get (tabled f n) i ≡ Some (f i)
tabled_at f n i h = tabled_get f 0 n i h ∙ ap (λ (j : ℕ). Some (f j)) (let e : 0 + i ≡ i = omega arith in e)

pub tabled_within : {X : Type 0} (f : ℕ → X) (n i : ℕ) (x : X) → slice_get (tabled f n) i ≡ Some x → i < n
tabled_within f n i x e = go f 0 n i x e
  where
    go : {X : Type 0} (f : ℕ → X) (at n i : ℕ) (x : X) → slice_get (tabled_from f at n) i ≡ Some x → i < n
    go f at zero zero x e = absurd (let t : None ≡ Some x = e in cc)
    go f at zero (suc i) x e = absurd (let t : None ≡ Some x = e in cc)
    go f at (suc n) zero x e = omega arith
    go f at (suc n) (suc i) x e = let h = go f (at + 1) n i x e in omega (arith, h)

set_from : {X : Type 0} (f g : ℕ → X) (at n p : ℕ) (x : X) → ((i : ℕ) → (i ≡ at + p → ⊥) → g i ≡ f i)
    → g (at + p) ≡ x → tabled_from g at n ≡ slice_set (tabled_from f at n) p x
set_from f g at zero zero x h e = refl
set_from f g at zero (suc p) x h e = refl
set_from {X = X} f g at (suc n) zero x h e =
    ap (λ (y : X). y ∷ tabled_from g (at + 1) n) (ap g (let z : at ≡ at + 0 = omega arith in z) ∙ e)
    ∙ ap (λ (xs : List X). x ∷ xs) (tabled_same g f (at + 1) n (λ i a b. h i (λ s. omega (arith, a, s))))
set_from {X = X} f g at (suc n) (suc p) x h e =
    let z : at + suc p ≡ (at + 1) + p = omega arith in
    ap (λ (y : X). y ∷ tabled_from g (at + 1) n) (h at (λ s. omega (arith, s)))
    ∙ ap (λ (xs : List X). f at ∷ xs) (set_from f g (at + 1) n p x (λ i d. h i (λ s. d (s ∙ z))) (ap g (sym z) ∙ e))

-- a value written
pub tabled_set : {X : Type 0} (f g : ℕ → X) (n p : ℕ) (x : X)
    → ((i : ℕ) → (i ≡ p → ⊥) → g i ≡ f i) → g p ≡ x → tabled g n ≡ slice_set (tabled f n) p x
tabled_set f g n p x h e =
    let z : 0 + p ≡ p = omega arith in
    set_from f g 0 n p x (λ i d. h i (λ s. d (s ∙ sym z))) (ap g z ∙ e)

-- a place with something in it has what is found there
pub found_at : {X : Type 0} (f : ℕ → Option X) (n place : ℕ) (now : List (Option X)) (x y : X)
    → tabled f n ≡ now → slice_get now place ≡ Some (Some x) → f place ≡ Some y → slice_get now place ≡ Some (Some y)
found_at {X = X} f n place now x y e held found =
    ap (λ (xs : List (Option X)). slice_get xs place) (sym e)
    ∙ (tabled_at f n place (tabled_within f n place (Some x)
    (ap (λ (xs : List (Option X)). slice_get xs place) e ∙ held))
    ∙ ap (λ (o : Option X). Some o) found)

-- one value at each place
pub tabled_one : {X : Type 0} (f : ℕ → X) (n : ℕ) (x : X) → ((i : ℕ) → f i ≡ x) → tabled f n ≡ replicate n x
tabled_one f n x h = go f 0 n x h
  where
    go : {X : Type 0} (f : ℕ → X) (at n : ℕ) (x : X) → ((i : ℕ) → f i ≡ x) → tabled_from f at n ≡ replicate n x
    go f at zero x h = refl
    go {X = X} f at (suc n) x h =
        ap (λ (y : X). y ∷ tabled_from f (at + 1) n) (h at)
        ∙ ap (λ (ys : List X). x ∷ ys) (go f (at + 1) n x h)

-- the same values at each place
pub tabled_all : {X : Type 0} (f g : ℕ → X) (n : ℕ) (now : List X)
    → ((i : ℕ) → g i ≡ f i) → tabled f n ≡ now → tabled g n ≡ now
tabled_all f g n now h e = tabled_same g f 0 n (λ i a b. h i) ∙ e

-- what is found at a place, where it is there
pub tabled_found : {X : Type 0} (f : ℕ → X) (n place : ℕ) (now : List X) (x : X)
    → tabled f n ≡ now → place < n → f place ≡ x → slice_get now place ≡ Some x
tabled_found {X = X} f n place now x e h is =
    ap (λ (xs : List X). slice_get xs place) (sym e)
    ∙ (tabled_at f n place h ∙ ap (λ (y : X). Some y) is)

-- what is found is what the place has, which is there
pub tabled_has : {X : Type 0} (f : ℕ → X) (n place : ℕ) (now : List X) (x : X)
    → tabled f n ≡ now → slice_get now place ≡ Some x → (place < n) × (f place ≡ x)
tabled_has {X = X} f n place now x e found =
    let at = ap (λ (xs : List X). slice_get xs place) e ∙ found in
    let h = tabled_within f n place x at in
    (h, same_Some (f place) x (sym (tabled_at f n place h) ∙ at))

-- a test that is false only where there is something is true where there is nothing
pub none_there : {X : Type 0} (b : Bool) (o : Option X) → (b ≡ false → IsSome o) → o ≡ None → b ≡ true
none_there true o h e = refl
none_there {X = X} false o h e = subst (λ (p : Option X). is_some p ≡ true) e (h refl)

-- what is there at a place, where that has something
pub held_there : {X : Type 0} (f : ℕ → Option X) (n place : ℕ) (now : List (Option X)) (x : X)
    → tabled f n ≡ now → slice_get now place ≡ Some (Some x) → f place ≡ Some x
held_there f n place now x e held = (tabled_has f n place now (Some x) e held).1

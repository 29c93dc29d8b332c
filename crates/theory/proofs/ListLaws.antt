-- Laws of lists that are looked up by place, and of tests on them.
use Rattle.std.proofs.Common.{◌≡◌, ◌≢◌, ◌⊎◌, inl, inr, refl, ◌∙◌, ap, ℕ, zero, suc, pred, ◌+◌, ◌<◌, ◌≤◌, Bool, true}
use Rattle.std.proofs.Common.{false, cond, ◌||◌, ◌&&◌, List, [], ◌∷◌, ◌++◌, length, take, drop, get_or, replicate}
use Rattle.std.proofs.Common.{arith, length-take, sym, not, ◌-◌}
use Rattle.std.specs.Prelude.{Some, slice_get, slice_index, slice_set, ◌==◌, map, nat_lt, nat_le, Option}
use Rattle.std.proofs.lemmas.Bool.Decides.{nat_tests}
use Rattle.std.specs.List.{filter, list_any, list_all, take_while, prefix_len}
use Rattle.std.proofs.lemmas.List.Sums.{take_while-cons}
use Rattle.std.proofs.lemmas.Option.{slice_get_within, get_or_from_slice_get, same_Some}
use Rattle.std.proofs.Math.Nat.{sub-zero}
use Rattle.model.specs.Lists.{has}
use Rattle.model.specs.Nodes.{Cause, letter, place_before, sender_of}

-- numbers that test equal are equal
pub eq_true : (a b : ℕ) → (a == b) ≡ true → a ≡ b
eq_true a b e = grind arith

-- and those that do not are not
pub different : (a b : ℕ) → (a == b) ≡ false → b ≢ a
different a b e is = grind arith

-- a number that is not below another, nor above it, is the other
pub number_is : (a b : ℕ) → nat_lt a b ≡ false → nat_lt b a ≡ false → a ≡ b
number_is a b p q = grind (arith, nat_tests)

-- a number tests equal to itself
pub eq_same : (a : ℕ) → (a == a) ≡ true
eq_same a = grind arith

-- which of two tests passed
pub or_cases : (a b : Bool) → (a || b) ≡ true → (a ≡ true) ⊎ (b ≡ true)
or_cases true b e = inl refl
or_cases false b e = inr e

-- the first test alone is enough
pub or_left : (a b : Bool) → a ≡ true → (a || b) ≡ true
or_left true b e = refl
or_left false b e = cc

-- and so is the second
pub or_right : (a b : Bool) → b ≡ true → (a || b) ≡ true
or_right true b e = refl
or_right false b e = e

-- a second test that fails adds nothing
pub or_false : (b : Bool) → b ≡ (b || false)
or_false true = refl
or_false false = refl

-- the element after a write, at its place or at another
pub get_set : {X : Type 0} (xs : List X) (i j : ℕ) (x y : X)
    → slice_get (slice_set xs i x) j ≡ Some y → ((j ≡ i) × (y ≡ x)) ⊎ ((j ≢ i) × (slice_get xs j ≡ Some y))
get_set [] i j x y e = cc
get_set (z ∷ xs) zero zero x y e = inl (refl, cc)
get_set (z ∷ xs) zero (suc j) x y e = inr (omega arith, e)
get_set (z ∷ xs) (suc i) zero x y e = inr (omega arith, e)
get_set (z ∷ xs) (suc i) (suc j) x y e =
    elim (get_set xs i j x y e) [ inl h ↦ inl (ap suc h.0, h.1) | inr h ↦ inr ((λ q. h.0 (ap pred q)), h.1) ]

-- an element of a list with one more is one of the list, or the last
pub get_append : {X : Type 0} (xs : List X) (x y : X) (i : ℕ)
    → slice_get (xs ++ x ∷ []) i ≡ Some y → (slice_get xs i ≡ Some y) ⊎ ((i ≡ length xs) × (y ≡ x))
get_append [] x y zero e = inr (refl, cc)
get_append [] x y (suc i) e = cc
get_append (z ∷ xs) x y zero e = inl e
get_append (z ∷ xs) x y (suc i) e =
    elim (get_append xs x y i e) [ inl h ↦ inl h | inr h ↦ inr (ap suc h.0, h.1) ]

-- an element of a front is one of the list
pub get_take : {X : Type 0} (xs : List X) (n i : ℕ) (x : X)
    → slice_get (take n xs) i ≡ Some x → (slice_get xs i ≡ Some x) × (i < n)
get_take [] zero i x e = cc
get_take (y ∷ xs) zero i x e = cc
get_take [] (suc n) i x e = cc
get_take (y ∷ xs) (suc n) zero x e = (e, omega arith)
get_take (y ∷ xs) (suc n) (suc i) x e =
    let h : (slice_get xs i ≡ Some x) × (i < n) = get_take xs n i x e in (h.0, omega arith)

-- an element before the first that fails
pub get_take_while : {X : Type 0} (p : X → Bool) (xs : List X) (i : ℕ) (x : X)
    → slice_get (take_while p xs) i ≡ Some x → (slice_get xs i ≡ Some x) × (i < length (take_while p xs))
get_take_while p xs i x e = let h = get_take xs (prefix_len p xs) i x e in (h.0, slice_get_within _ _ _ e)

-- an element whose forerunners and itself all pass is kept
pub kept_if_all_pass : {X : Type 0} (p : X → Bool) (xs : List X) (i : ℕ) (x : X) → slice_get xs i ≡ Some x
    → ((j : ℕ) (y : X) → j ≤ i → slice_get xs j ≡ Some y → p y ≡ true) → slice_get (take_while p xs) i ≡ Some x
kept_if_all_pass p [] i x e h = cc
kept_if_all_pass p (y ∷ xs) zero x e h =
    rw (take_while-cons p y xs, h 0 y (omega arith) refl) e
kept_if_all_pass p (y ∷ xs) (suc i) x e h =
    rw (
      take_while-cons p y xs,
      h 0 y (omega arith) refl,
    ) (kept_if_all_pass p xs i x e (λ j z le q. h (suc j) z (omega arith) q))

-- a number that is in the list has a place there
pub has_at : (xs : List ℕ) (x : ℕ) → has xs x ≡ true → (i : ℕ) × (slice_get xs i ≡ Some x)
has_at [] x e = cc
has_at (y ∷ ys) x e = elim (or_cases (y == x) (has ys x) e) [
  | inl h ↦ (0, ap Some (eq_true y x h))
  | inr h ↦ (suc (has_at ys x h).0, (has_at ys x h).1)
]

-- a number with a place in the list is in it
pub at_has : (xs : List ℕ) (i x : ℕ) → slice_get xs i ≡ Some x → has xs x ≡ true
at_has [] i x e = cc
at_has (y ∷ ys) zero x e = or_left (y == x) (has ys x) (let q : y ≡ x = cc in rw q (eq_same x))
at_has (y ∷ ys) (suc i) x e = or_right (y == x) (has ys x) (at_has ys i x e)

-- where some element passes, one has a place
pub any_at : {X : Type 0} (p : X → Bool) (xs : List X)
    → list_any p xs ≡ true → (i : ℕ) × ((x : X) × (slice_get xs i ≡ Some x) × (p x ≡ true))
any_at p [] e = cc
any_at p (y ∷ ys) e = elim (or_cases (p y) (list_any p ys) e) [
  | inl h ↦ (0, (y, refl, h))
  | inr h ↦ let r = any_at p ys h in (suc r.0, r.1)
]

-- an element that passes is enough
pub at_any : {X : Type 0} (p : X → Bool) (xs : List X) (i : ℕ) (x : X)
    → slice_get xs i ≡ Some x → p x ≡ true → list_any p xs ≡ true
at_any p [] i x e h = cc
at_any p (y ∷ ys) zero x e h = or_left (p y) (list_any p ys) (let q : y ≡ x = cc in rw q h)
at_any p (y ∷ ys) (suc i) x e h = or_right (p y) (list_any p ys) (at_any p ys i x e h)

-- both tests passed
pub and_both : (a b : Bool) → (a && b) ≡ true → (a ≡ true) × (b ≡ true)
and_both true b e = (refl, e)
and_both false b e = cc

-- where both pass, so does the test of both
pub both_and : (a b : Bool) → a ≡ true → b ≡ true → (a && b) ≡ true
both_and true b e f = f
both_and false b e f = e

-- every element passes
pub all_has : (p : ℕ → Bool) (xs : List ℕ) → list_all p xs ≡ true → (x : ℕ) → has xs x ≡ true → p x ≡ true
all_has p [] e x h = cc
all_has p (y ∷ ys) e x h =
    let b = and_both (p y) (list_all p ys) e in
    elim (or_cases (y == x) (has ys x) h) [ inl q ↦ rw (← eq_true y x q) b.0 | inr q ↦ all_has p ys b.1 x q ]

-- and all pass where each does
pub has_all : (p : ℕ → Bool) (xs : List ℕ) → ((x : ℕ) → has xs x ≡ true → p x ≡ true) → list_all p xs ≡ true
has_all p [] h = refl
has_all p (y ∷ ys) h = both_and (p y) (list_all p ys)
    (h y (or_left (y == y) (has ys y) (eq_same y))) (has_all p ys (λ x q. h x (or_right (y == x) (has ys x) q)))

-- what two lists have, one of them has
pub has_append : (xs ys : List ℕ) (x : ℕ) → has (xs ++ ys) x ≡ true → (has xs x ≡ true) ⊎ (has ys x ≡ true)
has_append [] ys x e = inr e
has_append (z ∷ xs) ys x e = elim (or_cases (z == x) (has (xs ++ ys) x) e) [
  | inl h ↦ inl (or_left (z == x) (has xs x) h)
  | inr h ↦ elim (has_append xs ys x h) [ inl q ↦ inl (or_right (z == x) (has xs x) q) | inr q ↦ inr q ]
]

-- and what one of them has, both together have
pub append_has : (xs ys : List ℕ) (x : ℕ) → (has xs x ≡ true) ⊎ (has ys x ≡ true) → has (xs ++ ys) x ≡ true
append_has [] ys x (inl e) = cc
append_has [] ys x (inr e) = e
append_has (z ∷ xs) ys x (inl e) = elim (or_cases (z == x) (has xs x) e) [
  | inl h ↦ or_left (z == x) (has (xs ++ ys) x) h
  | inr h ↦ or_right (z == x) (has (xs ++ ys) x) (append_has xs ys x (inl h))
]
append_has (z ∷ xs) ys x (inr e) = or_right (z == x) (has (xs ++ ys) x) (append_has xs ys x (inr e))

-- the element at the place of a write
pub set_get_same : {X : Type 0} (xs : List X) (i : ℕ) (x y : X)
    → slice_get xs i ≡ Some y → slice_get (slice_set xs i x) i ≡ Some x
set_get_same [] i x y e = cc
set_get_same (z ∷ xs) zero x y e = refl
set_get_same (z ∷ xs) (suc i) x y e = set_get_same xs i x y e

-- an element that is written again where it stands changes nothing
pub set_same : {X : Type 0} (xs : List X) (i : ℕ) (x : X) → slice_get xs i ≡ Some x → slice_set xs i x ≡ xs
set_same [] i x e = refl
set_same (y ∷ xs) zero x e = ap (λ z. z ∷ xs) (sym (same_Some y x e))
set_same (y ∷ xs) (suc i) x e = ap (λ ys. y ∷ ys) (set_same xs i x e)

-- the elements at other places
pub set_get_other : {X : Type 0} (xs : List X) (i j : ℕ) (x : X)
    → j ≢ i → slice_get (slice_set xs i x) j ≡ slice_get xs j
set_get_other [] i j x h = refl
set_get_other (z ∷ xs) zero zero x h = absurd (h refl)
set_get_other (z ∷ xs) zero (suc j) x h = refl
set_get_other (z ∷ xs) (suc i) zero x h = refl
set_get_other (z ∷ xs) (suc i) (suc j) x h = set_get_other xs i j x (λ q. h (ap suc q))

-- more at the end leaves each element at its place
pub append_get : {X : Type 0} (xs ys : List X) (i : ℕ) (x : X)
    → slice_get xs i ≡ Some x → slice_get (xs ++ ys) i ≡ Some x
append_get [] ys i x e = cc
append_get (z ∷ xs) ys zero x e = e
append_get (z ∷ xs) ys (suc i) x e = append_get xs ys i x e

-- one more element is at the end
pub append_get_last : {X : Type 0} (xs : List X) (x : X) → slice_get (xs ++ x ∷ []) (length xs) ≡ Some x
append_get_last [] x = refl
append_get_last (z ∷ xs) x = append_get_last xs x

-- an element at a place before the cut is in the front
pub take_get : {X : Type 0} (xs : List X) (n i : ℕ) (x : X)
    → i < n → slice_get xs i ≡ Some x → slice_get (take n xs) i ≡ Some x
take_get xs zero i x h e = absurd (omega arith)
take_get [] (suc n) i x h e = e
take_get (z ∷ xs) (suc n) zero x h e = e
take_get (z ∷ xs) (suc n) (suc i) x h e = take_get xs n i x (omega arith) e

-- a test passes or fails
pub bool_cases : (b : Bool) → (b ≡ true) ⊎ (b ≡ false)
bool_cases true = inl refl
bool_cases false = inr refl

-- where each fails, none passes
pub any_none : {X : Type 0} (p : X → Bool) (xs : List X)
    → ((i : ℕ) (x : X) → slice_get xs i ≡ Some x → p x ≡ false) → list_any p xs ≡ false
any_none p [] h = refl
any_none p (y ∷ ys) h = rw (h 0 y refl) (any_none p ys (λ i x e. h (suc i) x e))

-- where the first passes, the front is not empty
pub kept_front : {X : Type 0} (p : X → Bool) (x : X) (xs : List X) → p x ≡ true → 1 ≤ length (take_while p (x ∷ xs))
kept_front p x xs h = rw (take_while-cons p x xs, h) (omega arith)

-- an element of a map comes from one of the list
pub map_at : {X Y : Type 0} (f : X → Y) (xs : List X) (i : ℕ) (y : Y)
    → slice_get (map f xs) i ≡ Some y → (x : X) × (slice_get xs i ≡ Some x) × (y ≡ f x)
map_at f [] i y e = cc
map_at f (x ∷ xs) zero y e = (x, refl, cc)
map_at f (x ∷ xs) (suc i) y e = map_at f xs i y e

-- two neighbours in a list with one more at the end
pub adjacent : {X : Type 0} (xs : List X) (z : X) (i : ℕ) (x y : X)
    → slice_get (xs ++ z ∷ []) i ≡ Some x → slice_get (xs ++ z ∷ []) (suc i) ≡ Some y
    → (slice_get xs i ≡ Some x) × ((slice_get xs (suc i) ≡ Some y) ⊎ ((suc i ≡ length xs) × (y ≡ z)))
adjacent [] z i x y e f = cc
adjacent (w ∷ []) z zero x y e f = (e, inr (refl, cc))
adjacent (w ∷ []) z (suc i) x y e f = cc
adjacent (w ∷ v ∷ xs) z zero x y e f = (e, inl f)
adjacent (w ∷ v ∷ xs) z (suc i) x y e f = let r = adjacent (v ∷ xs) z i x y e f in
    (r.0, elim (r.1) [ inl q ↦ inl q | inr q ↦ inr (ap suc q.0, q.1) ])

-- an element before the first that fails passes
pub take_while_passes : {X : Type 0} (p : X → Bool) (xs : List X) (i : ℕ) (x : X)
    → slice_get (take_while p xs) i ≡ Some x → p x ≡ true
take_while_passes p [] i x e = cc
take_while_passes p (y ∷ ys) i x e =
    go (λ k. take_while_passes p ys k x) (p y) refl i (rw (take_while-cons p y ys) at e)
  where
    go : ((k : ℕ) → slice_get (take_while p ys) k ≡ Some x → p x ≡ true)
        → (b : Bool) → p y ≡ b → (k : ℕ) → slice_get (cond b (y ∷ take_while p ys) []) k ≡ Some x → p x ≡ true
    go rest false q k h = cc
    go rest true q zero h = let r : y ≡ x = same_Some y x h in rw (← r) q
    go rest true q (suc k) h = rest k h

-- equal numbers test equal
pub true_eq : (a b : ℕ) → a ≡ b → (a == b) ≡ true
true_eq a b e = grind arith

-- what tests less is less
pub lt_true : (a b : ℕ) → nat_lt a b ≡ true → a < b
lt_true a b e = grind (arith, nat_tests)

-- what is less tests less
pub true_lt : (a b : ℕ) → a < b → nat_lt a b ≡ true
true_lt a b e = grind (arith, nat_tests)

-- what does not test less is no less
pub lt_false : (a b : ℕ) → nat_lt a b ≡ false → b ≤ a
lt_false a b e = grind (arith, nat_tests)

-- what is no less does not test less
pub false_lt : (a b : ℕ) → b ≤ a → nat_lt a b ≡ false
false_lt a b e = grind (arith, nat_tests)

-- what tests at most is at most
pub le_true : (a b : ℕ) → nat_le a b ≡ true → a ≤ b
le_true a b e = grind (arith, nat_tests)

-- what is at most tests at most
pub true_le : (a b : ℕ) → a ≤ b → nat_le a b ≡ true
true_le a b e = grind (arith, nat_tests)

-- a front is no longer than the list
pub take_while_le : {X : Type 0} (p : X → Bool) (xs : List X) → length (take_while p xs) ≤ length xs
take_while_le p xs = rw (length-take (prefix_len p xs) xs) (omega arith)

-- an element of the list gives one of the map, at the same place
pub at_map : {X Y : Type 0} (f : X → Y) (xs : List X) (i : ℕ) (x : X)
    → slice_get xs i ≡ Some x → slice_get (map f xs) i ≡ Some (f x)
at_map f [] i x e = cc
at_map f (y ∷ ys) zero x e = let q : y ≡ x = same_Some y x e in rw q refl
at_map f (y ∷ ys) (suc i) x e = at_map f ys i x e

-- the node before is one of the parents
pub has_before : (o : Option ℕ) (rest : List ℕ) (p : ℕ) → o ≡ Some p → has (place_before o ++ rest) p ≡ true
has_before o rest p e = rw e (append_has (p ∷ []) rest p (inl (rw (eq_same p) refl)))

-- the sender of a node's letter is one of the parents
pub has_sender : (before : List ℕ) (c : Cause) (l s : ℕ) → c ≡ letter l s → has (before ++ sender_of c) s ≡ true
has_sender before c l s e = append_has before (sender_of c) s (inr (rw e (rw (eq_same s) refl)))

-- a test whose opposite passes fails
pub not_true : (b : Bool) → not b ≡ true → b ≡ false
not_true true e = sym e
not_true false e = refl

-- an element of two lists is one of the first or of the second
pub get_append_any : {X : Type 0} (xs ys : List X) (i : ℕ) (x : X)
    → slice_get (xs ++ ys) i ≡ Some x → (slice_get xs i ≡ Some x) ⊎ (slice_get ys (i - length xs) ≡ Some x)
get_append_any [] ys i x e = inr (rw sub-zero e)
get_append_any (z ∷ xs) ys zero x e = inl e
get_append_any (z ∷ xs) ys (suc i) x e = elim (get_append_any xs ys i x e) [
  | inl h ↦ inl h
  | inr h ↦ inr (let k : suc i - suc (length xs) ≡ i - length xs = omega arith in rw k h)
]

-- a list of one has it alone
pub single : {X : Type 0} (z : X) (i : ℕ) (x : X) → slice_get (z ∷ []) i ≡ Some x → (i ≡ 0) × (x ≡ z)
single z zero x e = (refl, cc)
single z (suc i) x e = cc

-- an element behind a front is one of the list
pub get_drop : {X : Type 0} (xs : List X) (n i : ℕ) (x : X)
    → slice_get (drop n xs) i ≡ Some x → slice_get xs (n + i) ≡ Some x
get_drop xs zero i x e = let k : 0 + i ≡ i = omega arith in rw k e
get_drop [] (suc n) i x e = cc
get_drop (y ∷ xs) (suc n) i x e = let k : suc n + i ≡ suc (n + i) = omega arith in rw k (get_drop xs n i x e)

-- an element that a filter keeps is one of the list, and passes
pub filtered_at : {X : Type 0} (p : X → Bool) (xs : List X) (i : ℕ) (y : X)
    → slice_get (filter p xs) i ≡ Some y → ((j : ℕ) × (slice_get xs j ≡ Some y)) × (p y ≡ true)
filtered_at p [] i y e = cc
filtered_at {X} p (x ∷ xs) i y e = go (p x) refl i (λ k f. filtered_at p xs k y f) e
  where
    go : (b : Bool) → p x ≡ b → (k : ℕ)
        → ((k : ℕ) → slice_get (filter p xs) k ≡ Some y → ((j : ℕ) × (slice_get xs j ≡ Some y)) × (p y ≡ true))
        → slice_get (cond b (x ∷ filter p xs) (filter p xs)) k ≡ Some y
        → ((j : ℕ) × (slice_get (x ∷ xs) j ≡ Some y)) × (p y ≡ true)
    go true q zero rest f = let is : x ≡ y = same_Some x y f in ((0, f), ap p (sym is) ∙ q)
    go true q (suc k) rest f = let t = rest k f in ((suc t.0.0, t.0.1), t.1)
    go false q k rest f = let t = rest k f in ((suc t.0.0, t.0.1), t.1)

-- the number that a map gives an element
pub index_map : {X : Type 0} (f : X → ℕ) (xs : List X) (i : ℕ) (x : X)
    → slice_get xs i ≡ Some x → slice_index (map f xs) i ≡ f x
index_map f xs i x e = get_or_from_slice_get (map f xs) i (f x) 0 (at_map f xs i x e)

-- more of the default at the end changes no look-up
pub get_or_padded : {X : Type 0} (xs : List X) (d : X) (n i : ℕ) → get_or (xs ++ replicate n d) i d ≡ get_or xs i d
get_or_padded [] d zero i = refl
get_or_padded [] d (suc n) zero = refl
get_or_padded [] d (suc n) (suc i) = get_or_padded [] d n i
get_or_padded (x ∷ xs) d n zero = refl
get_or_padded (x ∷ xs) d n (suc i) = get_or_padded xs d n i

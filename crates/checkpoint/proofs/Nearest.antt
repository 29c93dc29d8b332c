-- The last snapshot that is not above an index is the nearest one.
use Rattle.std.proofs.Common.{◌≡◌, ◌⊎◌, inl, inr, refl, sym, ◌∙◌, ℕ, zero, suc, ◌<◌, ◌≤◌, Bool, true, false, cond, List}
use Rattle.std.proofs.Common.{[], ◌∷◌, arith}
use Rattle.std.proofs.lemmas.Option.{same_Some}
use Rattle.std.specs.Prelude.{Option, Some, None, slice_get, nat_le, option_and_then, MatchOption}
use Rattle.std.specs.List.{fold}
use native.Mathlib.Decide.{dec_le}
use Rattle.theory.proofs.ListLaws.{le_true, true_le}
use Rattle.checkpoint.specs.declared.snapshot.Snapshot.{Snapshot}
use Rattle.checkpoint.specs.Shelves.{Shelved, Rises, IsShelved, IsNearest, AllAbove, later_of, nearest_of}

-- of later snapshots each is above this one
abbrev Before : {S : Type 0} → Snapshot S → List (Snapshot S) → Type 0
Before b xs = (i : ℕ) (x : _) → slice_get xs i ≡ Some x → b.index < x.index

abbrev Rising : {S : Type 0} → List (Snapshot S) → Type 0
Rising xs = (i j : ℕ) (x y : _) → i < j → slice_get xs i ≡ Some x → slice_get xs j ≡ Some y → x.index < y.index

rest_rises : {S : Type 0} (z : Snapshot S) (xs : List (Snapshot S)) → Rising (z ∷ xs) → Rising xs
rest_rises z xs r i j x y h e f = r (suc i) (suc j) x y (omega arith) e f

head_before : {S : Type 0} (z : Snapshot S) (xs : List (Snapshot S)) → Rising (z ∷ xs) → Before z xs
head_before z xs r i x e = r 0 (suc i) z x (omega arith) refl e

-- what is found is there and not above
found_there : {S : Type 0} (index : ℕ) (b : Option (Snapshot S)) (xs : List (Snapshot S)) (x : Snapshot S)
    → fold (later_of index) b xs ≡ Some x
    → (b ≡ Some x) ⊎ (((i : ℕ) × (slice_get xs i ≡ Some x)) × (x.index ≤ index))
found_there index b [] x e = inl e
found_there {S} index b (z ∷ xs) x e = elim (found_there index (later_of index b z) xs x e) [
  | inr h ↦ inr ((suc h.0.0, h.0.1), h.1)
  | inl h ↦ go (nat_le z.index index) refl h
]
  where
    go : (q : Bool) → nat_le z.index index ≡ q
        → cond q (Some z) b ≡ Some x → (b ≡ Some x) ⊎ (((i : ℕ) × (slice_get (z ∷ xs) i ≡ Some x)) × (x.index ≤ index))
    go true p f = let is : z ≡ x = same_Some z x f in inr ((0, f), (let k = le_true z.index index p in rw (← is) k))
    go false p f = inl f

-- what is passed over is not greater
found_above : {S : Type 0} (index : ℕ) (y : Snapshot S) (xs : List (Snapshot S))
    → Before y xs → Rising xs → (x : Snapshot S) × (fold (later_of index) (Some y) xs ≡ Some x) × (y.index ≤ x.index)
found_above index y [] before r = (y, refl, omega arith)
found_above {S} index y (z ∷ xs) before r = go (nat_le z.index index)
    (let t = found_above index z xs (head_before z xs r) (rest_rises z xs r) in
    let k = before 0 z refl in (t.0, t.1, omega (arith, t.2)))
    (found_above index y xs (λ i x e. before (suc i) x e) (rest_rises z xs r))
  where
    go : (q : Bool) → ((x : Snapshot S) × (fold (later_of index) (Some z) xs ≡ Some x) × (y.index ≤ x.index))
        → ((x : Snapshot S) × (fold (later_of index) (Some y) xs ≡ Some x) × (y.index ≤ x.index))
        → (x : Snapshot S) × (fold (later_of index) (cond q (Some z) (Some y)) xs ≡ Some x) × (y.index ≤ x.index)
    go true up same = up
    go false up same = same

found_later : {S : Type 0} (index : ℕ) (b : Option (Snapshot S)) (xs : List (Snapshot S)) (i : ℕ) (y : Snapshot S)
    → Rising xs → slice_get xs i ≡ Some y → y.index ≤ index
    → (x : Snapshot S) × (fold (later_of index) b xs ≡ Some x) × (y.index ≤ x.index)
found_later index b [] i y r e le = cc
found_later {S} index b (z ∷ xs) zero y r e le =
    let is : z ≡ y = same_Some z y e in
    let t : nat_le z.index index ≡ true = rw is (true_le y.index index le) in
    rw (t, is) (found_above index y xs (λ i x f. r 0 (suc i) y x (omega arith) e f) (rest_rises z xs r))
found_later index b (z ∷ xs) (suc i) y r e le = found_later index (later_of index b z) xs i y (rest_rises z xs r) e le

base_found : {S : Type 0} (index : ℕ) (base : Option (Snapshot S)) (x : Snapshot S)
    → option_and_then (later_of index None) base ≡ Some x → (base ≡ Some x) × (x.index ≤ index)
base_found index None x e = cc
base_found {S} index (Some z) x e = go (nat_le z.index index) refl e
  where
    go : (q : Bool) → nat_le z.index index ≡ q → cond q (Some z) None ≡ Some x → (Some z ≡ Some x) × (x.index ≤ index)
    go true p f = let is : z ≡ x = same_Some z x f in (f, (let k = le_true z.index index p in rw (← is) k))
    go false p f = cc

base_kept : {S : Type 0} (index : ℕ) (y : Snapshot S)
    → y.index ≤ index → option_and_then (later_of index None) (Some y) ≡ Some y
base_kept index y le = rw (true_le y.index index le) refl

module _ {S : Type 0} (s : Shelved S) (r : Rises s.base s.others) (index : ℕ) where
  -- each snapshot that is not above is not above the one that is found
  shelved_found : (y : Snapshot S)
      → IsShelved s y → y.index ≤ index → (x : Snapshot S) × (nearest_of s index ≡ Some x) × (y.index ≤ x.index)
  shelved_found y (inl e) le =
      rw (e, base_kept index y le) (found_above index y s.others (λ i x f. r.above y i x e f) r.rising)
  shelved_found y (inr t) le =
      found_later index (option_and_then (later_of index None) s.base) s.others t.0 y r.rising t.1 le

  -- what is found is the nearest
  pub nearest_some : (x : Snapshot S) → nearest_of s index ≡ Some x → IsNearest s index x
  nearest_some x e = record {
    there = elim (found_there index (option_and_then (later_of index None) s.base) s.others x e) [
      | inl h ↦
          inl (base_found index s.base x h).0
      | inr h ↦ inr h.0
    ];
    not_above = elim (found_there index (option_and_then (later_of index None) s.base) s.others x e) [
      | inl h ↦
          (base_found index s.base x h).1
      | inr h ↦ h.1
    ];
    greatest = λ y there le. let t = shelved_found y there le in
        let is : t.0 ≡ x = same_Some t.0 x (sym t.1 ∙ e) in let k = t.2 in rw (← is) k;
  }

  -- where none is found all are above
  pub nearest_none : nearest_of s index ≡ None → AllAbove s index
  nearest_none e y there = elim (dec_le y.index index) [
    | no h ↦ omega arith
    | yes h ↦ absurd (let t = shelved_found y there h in let k = t.1 in cc (k, e))
  ]

  -- and so of either
  pub nearest_tells : (o : Option (Snapshot S))
      → o ≡ nearest_of s index → MatchOption o (AllAbove s index) (λ x. IsNearest s index x)
  nearest_tells None e = nearest_none (sym e)
  nearest_tells (Some x) e = nearest_some x (sym e)

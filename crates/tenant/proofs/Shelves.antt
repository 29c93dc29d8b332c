-- The checkpoints of a unit by their indices.
use Rattle.std.proofs.Common.{◌≡◌, inl, inr, refl, sym, ◌∙◌, ap, ℕ, suc, ◌+◌, ◌-◌, ◌<◌, ◌≤◌, Bool, true, false, cond}
use Rattle.std.proofs.Common.{not, ◌||◌, min, List, [], ◌∷◌, ◌++◌, length, drop, map, arith}
use Rattle.std.specs.Prelude.{Option, Some, None, slice_get, nat_lt, nat_le, option_and_then, option_map, ◌==◌}
use Rattle.std.specs.List.{filter, fold, list_any, position_or_len, prefix_len, remove, take_while}
use Rattle.std.specs.Option.{option_map_or}
use Rattle.std.proofs.lemmas.List.{length-map, map-append}
use Rattle.std.proofs.lemmas.List.Sums.{take_while-cons}
use Rattle.std.proofs.lemmas.Option.{same_Some}
use Rattle.model.specs.Keeping.{Shelf, based, cut, later, put, with_room as room_of}
use Rattle.model.specs.Lists.{has}
use Rattle.theory.proofs.ListLaws.{any_at, bool_cases, eq_true, le_true, lt_true, true_le, true_lt, false_lt}
use Rattle.checkpoint.specs.declared.snapshot.Snapshot.{Snapshot}
use Rattle.checkpoint.specs.Shelves.{Rises, cut_at, has_index, is_at, later_of, put_on, making_room}
use Rattle.compact.specs.Compact.{Progress}
use Rattle.rollback.specs.Units.{IsKept, Recovering, based_on, forgotten, places}
use Rattle.rollback.proofs.Forgetting.{others_have}
use Rattle.tenant.specs.Bases.{next_base}
use Rattle.tenant.specs.Past.{shelf_of}
use Rattle.tenant.proofs.Moving.{next_is}

-- ---- lists of snapshots, and of their indices

abbrev index_of : {P : Type 0} → Snapshot P → ℕ
index_of x = x.index

abbrev indices : {P : Type 0} → List (Snapshot P) → List ℕ
indices xs = map index_of xs

abbrev shelf : Bool → ℕ → List ℕ → Shelf
shelf first base others = record { base = base; first_put = first; others = others }

same_shelf : (first : Bool) (m n : ℕ) (xs ys : List ℕ) → m ≡ n → xs ≡ ys → shelf first m xs ≡ shelf first n ys
same_shelf first m n xs ys e f = λ i. shelf first (e i) (f i)

has_indices : {P : Type 0} (xs : List (Snapshot P)) (n : ℕ) → list_any (is_at n) xs ≡ has (indices xs) n
has_indices [] n = refl
has_indices (x ∷ xs) n = ap (λ b. (x.index == n) || b) (has_indices xs n)

map_cond : {P : Type 0} (b : Bool) (xs ys : List (Snapshot P))
    → indices (cond b xs ys) ≡ cond b (indices xs) (indices ys)
map_cond true xs ys = refl
map_cond false xs ys = refl

without_first : {P : Type 0} (xs : List (Snapshot P)) → indices (remove xs 0) ≡ drop 1 (indices xs)
without_first [] = refl
without_first (x ∷ xs) = refl

room_is : {P : Type 0} (xs : List (Snapshot P)) → indices (making_room xs) ≡ room_of (indices xs)
room_is {P} xs =
    map_cond (nat_lt (length xs) 64) xs (remove xs 0)
    ∙ ap (λ ys. cond (nat_lt (length xs) 64) (indices xs) ys) (without_first xs)
    ∙ ap (λ n. cond (nat_lt n 64) (indices xs) (drop 1 (indices xs))) (sym (length-map xs (index_of {P = P})))

front_is : {P : Type 0} (n : ℕ) (xs : List (Snapshot P))
    → indices (take_while (λ x. nat_lt x.index n) xs) ≡ take_while (λ i. nat_lt i n) (indices xs)
front_is n [] = refl
front_is {P} n (x ∷ xs) =
    ap indices (take_while-cons (λ (y : Snapshot P). nat_lt y.index n) x xs)
    ∙ map_cond (nat_lt x.index n) (x ∷ take_while (λ y. nat_lt y.index n) xs) []
    ∙ ap (λ is. cond (nat_lt x.index n) (x.index ∷ is) []) (front_is n xs)
    ∙ sym (take_while-cons (λ i. nat_lt i n) x.index (indices xs))

-- where each is above, none goes
all_above : {P : Type 0} (n : ℕ) (xs : List (Snapshot P))
    → ((i : ℕ) (x : Snapshot P) → slice_get xs i ≡ Some x → n < x.index) → filter (nat_lt n) (indices xs) ≡ indices xs
all_above n [] h = refl
all_above n (x ∷ xs) h =
    ap (λ b. cond b (x.index ∷ filter (nat_lt n) (indices xs)) (filter (nat_lt n) (indices xs)))
    (true_lt n x.index (h 0 x refl))
    ∙ ap (λ is. x.index ∷ is) (all_above n xs (λ i y e. h (suc i) y e))

one : (n : ℕ) → (1 + n) + 1 ≡ suc (n + 1)
one n = omega arith

-- those behind the one that is found are those above it
behind_is : {P : Type 0} (n : ℕ) (xs : List (Snapshot P)) → ((i j : ℕ) (x y : Snapshot P)
    → i < j → slice_get xs i ≡ Some x → slice_get xs j ≡ Some y → x.index < y.index) → list_any (is_at n) xs ≡ true
    → indices (drop (position_or_len (is_at n) xs + 1) xs) ≡ filter (nat_lt n) (indices xs)
behind_is n [] rising e = absurd (cc e)
behind_is {P} n (z ∷ xs) rising e = go
    (z.index == n) refl e (λ h. behind_is n xs (λ i j x y lt f g. rising (suc i) (suc j) x y (omega (arith, lt)) f g) h)
  where
    goes : z.index ≤ n → filter (nat_lt n) (indices (z ∷ xs)) ≡ filter (nat_lt n) (indices xs)
    goes low = ap (λ b. cond b (z.index ∷ filter (nat_lt n) (indices xs)) (filter (nat_lt n) (indices xs)))
        (false_lt n z.index low)

    go : (b : Bool) → (z.index == n) ≡ b → (b || list_any (is_at n) xs) ≡ true → (list_any (is_at n) xs ≡ true
        → indices (drop (position_or_len (is_at n) xs + 1) xs) ≡ filter (nat_lt n) (indices xs))
        → indices (drop (cond (not b) (1 + prefix_len (λ y. not (is_at n y)) xs) 0 + 1) (z ∷ xs))
        ≡ filter (nat_lt n) (indices (z ∷ xs))
    go true t h rest =
        let is = eq_true z.index n t in
        sym (all_above n xs (λ i y g. let lt = rising 0 (suc i) z y (omega arith) refl g in omega (arith, lt, is)))
        ∙ sym (goes (omega (arith, is)))
    go false t h rest =
        let at = any_at (is_at n) xs h in
        let lt = rising 0 (suc at.0) z at.1.0 (omega arith) refl at.1.1 in
        let is = eq_true at.1.0.index n at.1.2 in
        ap (λ k. indices (drop k (z ∷ xs))) (one (prefix_len (λ y. not (is_at n y)) xs))
        ∙ rest h
        ∙ sym (goes (omega (arith, lt, is)))

-- ---- the last one below

later_is : {P : Type 0} (t f : ℕ) (xs : List (Snapshot P))
    → ((i : ℕ) (x : Snapshot P) → slice_get xs i ≡ Some x → nat_le x.index t ≡ nat_lt x.index f) → (b : Snapshot P)
    → option_map index_of (fold (later_of t) (Some b) xs) ≡ Some (fold (later f) b.index (indices xs))
later_is t f [] h b = refl
later_is {P} t f (z ∷ xs) h b =
    go (nat_le z.index t) (λ c. later_is t f xs (λ i x e. h (suc i) x e) c)
    ∙ ap (λ q. Some (fold (later f) (cond q z.index b.index) (indices xs))) (h 0 z refl)
  where
    go : (q : Bool) → ((c : Snapshot P)
        → option_map index_of (fold (later_of t) (Some c) xs) ≡ Some (fold (later f) c.index (indices xs)))
        → option_map index_of (fold (later_of t) (cond q (Some z) (Some b)) xs)
        ≡ Some (fold (later f) (cond q z.index b.index) (indices xs))
    go true rest = rest z
    go false rest = rest b

last_is : {P : Type 0} (t f m : ℕ) (o : Option (Snapshot P)) (xs : List (Snapshot P))
    → ((i : ℕ) (x : Snapshot P) → slice_get xs i ≡ Some x → nat_le x.index t ≡ nat_lt x.index f)
    → m ≤ t → option_map (λ (x : Snapshot P). x.index) o ≡ Some m → option_map
    index_of (fold (later_of t) (option_and_then (later_of t None) o) xs) ≡ Some (fold (later f) m (indices xs))
last_is t f m None xs h low e = absurd (cc e)
last_is t f m (Some b) xs h low e =
    let is : b.index ≡ m = same_Some b.index m e in
    ap (λ q. option_map index_of (fold (later_of t) (cond q (Some b) None) xs))
    (true_le b.index t (omega (arith, is, low)))
    ∙ later_is t f xs h b
    ∙ ap (λ k. Some (fold (later f) k (indices xs))) is

-- up to the top the tests agree
tests_agree : (i f top : ℕ) → i ≤ top → 0 < f → nat_le i (min (f - 1) top) ≡ nat_lt i f
tests_agree i f top low some = elim (bool_cases (nat_lt i f)) [
  | inl h ↦ true_le i (min (f - 1) top) (let a = lt_true i f h in omega (arith, a, low)) ∙ sym h
  | inr h ↦ elim (bool_cases (nat_le i (min (f - 1) top))) [
    | inr g ↦ g ∙ sym h
    | inl g ↦
        absurd (let a = le_true i (min (f - 1) top) g in let b = true_lt i f (omega (arith, a, some)) in cc (b, h))
  ]
]

above_base : {P : Type 0} (o : Option (Snapshot P)) (others : List (Snapshot P)) (m : ℕ)
    → option_map (λ (x : Snapshot P). x.index) o ≡ Some m
    → Rises o others → (i : ℕ) (x : Snapshot P) → slice_get others i ≡ Some x → m < x.index
above_base None others m e rises i x g = absurd (cc e)
above_base (Some b) others m e rises i x g = let is : b.index ≡ m = same_Some b.index m e in
    let h = rises.above b i x refl g in omega (arith, is, h)

module _ {S : Type 0} (r : Recovering S) (first : Bool) where
  abbrev others : List (Snapshot (Progress S))
  others = r.shelf.others

  -- ---- a checkpoint is put

  abbrev snapshot : ℕ → Progress S → Snapshot (Progress S)
  snapshot index p = record { index = index; state = p }

  has_is : IsKept r → (n : ℕ) → has_index r.shelf n ≡ ((r.base == n) || has (indices others) n)
  has_is k n = at_base r.shelf.base k.base ∙ ap (λ b. (r.base == n) || b) (has_indices others n)
    where
      at_base : (o : Option (Snapshot (Progress S)))
          → option_map (λ (x : Snapshot (Progress S)). x.index) o ≡ Some r.base → (option_map_or (is_at n) o false
          || list_any (is_at n) others) ≡ ((r.base == n) || list_any (is_at n) others)
      at_base None e = absurd (cc e)
      at_base (Some b) e = ap (λ m. (m == n) || list_any (is_at n) others) (same_Some b.index r.base e)

  -- whether one was put at the beginning once one is put at this index
  abbrev marks : ℕ → Bool
  marks index = first || (index == 0)

  -- A shelf on which a snapshot is put has, by its indices, the snapshot's index put.
  pub put_is : IsKept r → (index : ℕ) (p : Progress S)
      → shelf_of (first || (index == 0)) (record r { shelf = put_on r.shelf (record { index = index; state = p }) })
      ≡ put index (shelf_of first r)
  put_is k index p = go (has_index r.shelf index)
      ∙ ap (λ b. cond b (shelf_of (marks index) r)
      (shelf (marks index) r.base (room_of (indices others) ++ index ∷ []))) (has_is k index)
    where
      go : (b : Bool) → shelf_of (marks index) (record r {
        shelf =
            cond b r.shelf (record r.shelf { others = making_room others ++ snapshot index p ∷ [] });
      })
          ≡ cond b (shelf_of (marks index) r) (shelf (marks index) r.base (room_of (indices others) ++ index ∷ []))
      go true = refl
      go false = ap (shelf (marks index) r.base) (map-append index_of (making_room others) (snapshot index p ∷ [])
          ∙ ap (λ is. is ++ index ∷ []) (room_is others))

  -- ---- a path is cut

  -- A shelf that is cut at an index has, by its indices, those that are cut there.
  pub cut_is : (n : ℕ) → shelf_of first (record r { shelf = cut_at r.shelf n }) ≡ cut n (shelf_of first r)
  cut_is n = ap (shelf first r.base) (front_is n others)

  -- ---- the base moves

  abbrev last : ℕ → ℕ
  last f = fold (later f) r.base (indices others)

  next_last : IsKept r → (f : ℕ) → r.base < f → next_base r f ≡ Some (last f)
  next_last k f low = last_is (min (f - 1) (places r - 1)) f r.base r.shelf.base others agree base_low k.base
    where
      some : length r.volatile < length r.intervals
      some = k.stable

      base_low : r.base ≤ min (f - 1) ((r.base + length r.intervals) - 1)
      base_low = omega (arith, low, some)

      agree : (i : ℕ) (x : Snapshot (Progress S))
          → slice_get others i ≡ Some x → nat_le x.index (min (f - 1) (places r - 1)) ≡ nat_lt x.index f
      agree i x e =
          let top : x.index ≤ (r.base + length r.intervals) - length r.volatile - 1 = k.top x (inr (i, e)) in
          tests_agree x.index f (places r - 1) (omega (arith, top)) (omega (arith, low))

  -- A unit whose base is below the frontier has a next base.
  pub next_there : IsKept r → (f : ℕ) → r.base < f → next_base r f ≡ None → ⊥
  next_there k f low e = let h = next_last k f low in cc (e, h)

  -- those above the new base stay
  forgotten_is : IsKept r → (base : ℕ)
      → has_index r.shelf base ≡ true → shelf_of first (forgotten r base)
      ≡ shelf first base (filter (nat_lt base) (indices others))
  forgotten_is k base there = go (base == r.base) refl
    where
      go : (q : Bool) → (base == r.base) ≡ q
          → shelf_of first (cond q r (based_on r base)) ≡ shelf first base (filter (nat_lt base) (indices others))
      go true t =
          let is = eq_true base r.base t in
          same_shelf first r.base base (indices others) (filter (nat_lt base) (indices others)) (sym is)
          (sym (all_above base others (λ i x e. let h = above_base r.shelf.base others r.base k.base k.rises i x e in
          omega (arith, is, h))))
      go false t = ap (shelf first base) (behind_is base
          others (λ i j x y lt f g. k.rises.rising i j x y lt f g) (others_have r.shelf r.base base k.base t there))

  -- A unit that forgets up to its next base has, by its indices, a shelf that is based at the frontier.
  pub based_is : IsKept r → (f : ℕ)
      → r.base < f → (base : ℕ) → next_base r f ≡ Some base → shelf_of first (forgotten r base)
      ≡ based f (shelf_of first r)
  based_is k f low base e =
      forgotten_is k base (next_is r f base e).0
      ∙ ap (λ n. shelf first n (filter (nat_lt n) (indices others))) (same_Some base (last f) (sym e
      ∙ next_last k f low))

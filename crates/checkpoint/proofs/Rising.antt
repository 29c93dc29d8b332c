-- A shelf rises after each call.
use Rattle.std.proofs.Common.{◌≡◌, ◌≢◌, inl, inr, refl, ◌∙◌, ap, ℕ, suc, ◌+◌, ◌<◌, Bool, true, false, cond, ◌||◌, ◌&&◌}
use Rattle.std.proofs.Common.{zero, subst, List}
use Rattle.std.proofs.Common.{[], ◌∷◌, ◌++◌, length, take, drop, arith, length-append}
use Rattle.std.specs.Prelude.{Option, Some, None, option_map, slice_get, nat_lt}
use Rattle.std.specs.List.{list_any, remove}
use Rattle.std.specs.Option.{option_map_or}
use Rattle.std.proofs.lemmas.Option.{slice_get_within, same_Some}
use Rattle.theory.proofs.ListLaws.{get_append, get_drop, get_take, at_any, true_eq, and_both, both_and, lt_true}
use Rattle.theory.proofs.ListLaws.{true_lt}
use Rattle.checkpoint.specs.declared.snapshot.Snapshot.{Snapshot}
use Rattle.checkpoint.specs.Shelves.{Shelved, Rises, IsShelved, IsTop, is_at, has_index, making_room, are_rising}
use Rattle.checkpoint.specs.Shelves.{is_index_behind}

-- an empty shelf
pub rises_none : {S : Type 0} → Rises {S = S} None []
rises_none = record { above = λ b i x e f. cc; rising = λ i j x y h e f. cc }

-- a front of it
pub rises_take : {S : Type 0} (base : Option (Snapshot S)) (others : List (Snapshot S)) (n : ℕ)
    → Rises base others → Rises base (take n others)
rises_take base others n r = record {
  above = λ b i x e f. r.above b i x e (get_take others n i x f).0;
  rising = λ i j x y h e f. r.rising i j x y h (get_take others n i x e).0 (get_take others n j y f).0;
}

-- what is behind one of the others, with that one as the base
pub rises_based : {S : Type 0} (base : Option (Snapshot S)) (others : List (Snapshot S)) (at : ℕ) (b : Snapshot S)
    → slice_get others at ≡ Some b → Rises base others → Rises (Some b) (drop (at + 1) others)
rises_based base others at b found r = record {
  above = λ c i x e f. let is : b ≡ c = same_Some b c e in
      r.rising at ((at + 1) + i) c x (omega arith) (found ∙ ap Some is) (get_drop others (at + 1) i x f);
  rising = λ i j x y h e f. r.rising
      ((at + 1) + i) ((at + 1) + j) x y (omega arith) (get_drop others (at + 1) i x e) (get_drop others (at + 1) j y f);
}

-- An element of a list without its first one stands one place later in the whole list.
pub remove_first : {X : Type 0} (xs : List X) (i : ℕ) (x : X)
    → slice_get (remove xs 0) i ≡ Some x → slice_get xs (suc i) ≡ Some x
remove_first [] i x e = cc
remove_first (y ∷ xs) i x e = e

-- the others once there is room
making_room_at : {S : Type 0} (others : List (Snapshot S)) (i : ℕ) (x : Snapshot S)
    → slice_get (making_room others) i ≡ Some x → slice_get others (i + (cond (nat_lt (length others) 64) 0 1)) ≡ Some x
making_room_at others i x e = go (nat_lt (length others) 64) e
  where
    go : (b : Bool) → slice_get (cond b others (remove others 0)) i ≡ Some x
        → slice_get others (i + cond b 0 1) ≡ Some x
    go true f = let k : i + 0 ≡ i = omega arith in rw k f
    go false f = let k : i + 1 ≡ suc i = omega arith in rw k (remove_first others i x f)

-- a snapshot that is not at the index of another
not_at : {S : Type 0} (s : Shelved S) (index : ℕ) (x : Snapshot S)
    → has_index s index ≡ false → IsShelved s x → x.index ≢ index
not_at s index x none (inl e) is = absurd (let t : option_map_or (is_at index) s.base false ≡ true =
    rw e (true_eq x.index index is) in let k : has_index s index ≡ true = rw t refl in cc (k, none))
not_at s index x none (inr t) is = absurd (go (option_map_or (is_at index) s.base false)
    (at_any (is_at index) s.others t.0 x t.1 (true_eq x.index index is)) none)
  where
    go : (b : Bool) → list_any (is_at index) s.others ≡ true → (b || list_any (is_at index) s.others) ≡ false → ⊥
    go true p q = cc
    go false p q = cc (p, q)

-- one more snapshot above all
pub rises_put : {S : Type 0} (base : Option (Snapshot S)) (others now : List (Snapshot S)) (z : Snapshot S)
    → now ≡ making_room others ++ z ∷ []
    → has_index (record { base = base; others = others }) z.index ≡ false
    → IsTop (record { base = base; others = others }) z.index → Rises base others → Rises base now
rises_put {S} base others now z is none top r = rw is (record { above = above; rising = rising })
  where
    s : Shelved S
    s = record { base = base; others = others }

    below : (x : Snapshot S) → IsShelved s x → x.index < z.index
    below x there = let n = not_at s z.index x none there in let t = top x there in omega (arith, n, t)

    above : (b : Snapshot S) (i : ℕ) (x : Snapshot S)
        → base ≡ Some b → slice_get (making_room others ++ z ∷ []) i ≡ Some x → b.index < x.index
    above b i x e f = elim (get_append (making_room others) z x i f) [
      | inl h ↦ r.above b (i + cond (nat_lt (length others) 64) 0 1) x e (making_room_at others i x h)
      | inr h ↦ rw h.1 (below b (inl e))
    ]

    rising : (i j : ℕ) (x y : Snapshot S) → i < j → slice_get (making_room others ++ z ∷ []) i ≡ Some x
        → slice_get (making_room others ++ z ∷ []) j ≡ Some y → x.index < y.index
    rising i j x y h e f = elim (get_append (making_room others) z x i e) [
      | inr p ↦ absurd (let k = slice_get_within (making_room others ++ z ∷ []) j y f in
          let l = length-append (making_room others) (z ∷ []) in omega (arith, p.0, k, h, l))
      | inl p ↦ elim (get_append (making_room others) z y j f) [
        | inl q ↦ r.rising (i + cond (nat_lt (length others) 64) 0 1) (j + cond (nat_lt (length others) 64) 0 1)
            x y (omega arith) (making_room_at others i x p) (making_room_at others j y q)
        | inr q ↦ rw q.1 (below x (inr (i + cond (nat_lt (length others) 64) 0 1, making_room_at others i x p)))
      ]
    ]

-- Where the test passes, each index is greater than the one before the list.
above_by : {S : Type 0} (last : ℕ) (xs : List (Snapshot S)) → are_rising (Some last) xs ≡ true
    → (i : ℕ) (x : Snapshot S) → slice_get xs i ≡ Some x → last < x.index
above_by last [] e i x f = cc
above_by last (z ∷ xs) e zero x f =
    subst (λ y. last < y.index) (same_Some z x f) (lt_true last z.index (and_both _ _ e).0)
above_by last (z ∷ xs) e (suc i) x f =
    let first : last < z.index = lt_true last z.index (and_both _ _ e).0 in
    let rest : z.index < x.index = above_by z.index xs (and_both (nat_lt last z.index) _ e).1 i x f in
    omega (arith, first, rest)

-- And each is greater than those before it in the list.
rising_by : {S : Type 0} (last : Option ℕ) (xs : List (Snapshot S)) → are_rising last xs ≡ true
    → (i j : ℕ) (x y : Snapshot S) → i < j → slice_get xs i ≡ Some x → slice_get xs j ≡ Some y → x.index < y.index
rising_by last [] e i j x y h p q = cc
rising_by last (z ∷ xs) e i zero x y h p q = absurd (omega (arith, h))
rising_by last (z ∷ xs) e zero (suc j) x y h p q =
    subst (λ a. a.index < y.index) (same_Some z x p)
    (above_by z.index xs (and_both (is_index_behind last z.index) _ e).1 j y q)
rising_by last (z ∷ xs) e (suc i) (suc j) x y h p q =
    rising_by (Some z.index) xs (and_both (is_index_behind last z.index) _ e).1 i j x y (omega (arith, h)) p q

-- Where the test passes, a shelf of these rises.
pub rises_of : {S : Type 0} (base : Option (Snapshot S)) (others : List (Snapshot S))
    → are_rising (option_map (λ s. s.index) base) others ≡ true → Rises base others
rises_of base others e = record {
  above = λ b i x is f. above_by b.index others
      (subst (λ o. are_rising (option_map (λ s. s.index) o) others ≡ true) is e) i x f;
  rising = rising_by (option_map (λ s. s.index) base) others e;
}

-- the first is greater than the base
behind_base : {S : Type 0} (base : Option (Snapshot S)) (x : Snapshot S) (xs : List (Snapshot S))
    → Rises base (x ∷ xs) → is_index_behind (option_map (λ s. s.index) base) x.index ≡ true
behind_base None x xs r = refl
behind_base (Some b) x xs r = true_lt b.index x.index (r.above b 0 x refl refl)

-- A shelf that rises passes the test.
pub of_rises : {S : Type 0} (base : Option (Snapshot S)) (others : List (Snapshot S))
    → Rises base others → are_rising (option_map (λ s. s.index) base) others ≡ true
of_rises base [] r = refl
of_rises base (x ∷ xs) r = both_and _ _ (behind_base base x xs r) (of_rises (Some x) xs (record {
  above = λ b i y is f. subst (λ a. a.index < y.index) (same_Some x b is) (r.rising 0 (suc i) x y (omega arith) refl f);
  rising = λ i j y z h p q. r.rising (suc i) (suc j) y z (omega (arith, h)) p q;
}))

-- The firm front of each path, up to any number of nodes.
use Rattle.std.proofs.Common.{◌≡◌, ◌⊎◌, inl, inr, refl, sym, ◌∙◌, ap, ℕ, zero, suc, ◌<◌, ◌≤◌, Bool, true, false, ◌&&◌}
use Rattle.std.proofs.Common.{List, [], ◌∷◌, length, take, arith}
use Rattle.std.specs.Prelude.{Some, slice_get, nat_lt}
use Rattle.std.proofs.lemmas.Bool.Decides.{nat_tests}
use Rattle.std.proofs.lemmas.Option.{slice_get_within, same_Some}
use Rattle.std.specs.List.{take_while, prefix_len}
use Rattle.std.proofs.lemmas.List.Sums.{take_while-cons}
use native.Mathlib.Decide.{ℕ_discrete}
use Rattle.model.specs.declared.names.Row.{Row}
use Rattle.model.specs.Nodes.{Node, node_at, DependsOn, sender_of}
use Rattle.model.specs.World.{World, Member, is_firm}
use Rattle.model.proofs.Places.{get_below}
use Rattle.theory.proofs.ListLaws.{kept_if_all_pass, has_before, true_lt, both_and}
use Rattle.theory.proofs.Pasts.{Placed, depends_trans}
use Rattle.theory.proofs.Invariants.{Sound, SoundMember}
use Rattle.theory.proofs.Firm.{firm_stands, stands_firm, path_depends}

-- the part of a path that is firm and was made before the k-th node
abbrev pub front : World → ℕ → List ℕ → List ℕ
front w k path = take_while (λ x. is_firm w x && nat_lt x k) path

-- what a firm node depends on is firm
pub firm_past : (w : World) (x y : ℕ)
    → Placed w.nodes → x < length w.nodes → is_firm w x ≡ true → DependsOn w.nodes x y → is_firm w y ≡ true
firm_past w x y placed within e d = stands_firm w y (λ z g. firm_stands w x z placed within e (depends_trans d g))

-- places rise along a path
pub path_rises : {nodes : List Node} {table : List Row} {u : ℕ} {m : Member}
    → Placed nodes → SoundMember nodes table u m
    → (i j x y : ℕ) → slice_get m.path i ≡ Some x → slice_get m.path j ≡ Some y → i < j → x < y
path_rises {nodes} {m = m} placed s i zero x y e f h = absurd (omega arith)
path_rises {nodes} {m = m} placed s i (suc j) x y e f h =
    let r = get_below m.path j (let t = slice_get_within m.path (suc j) y f in omega arith) in
    let b = s.chained j r.0 y r.1 f in
    let below : r.0 < y =
    placed y r.0 (has_before (node_at nodes y).before (sender_of (node_at nodes y).cause) r.0 b) in
    elim (ℕ_discrete i j) [
      | yes q ↦ let is : x ≡ r.0 = same_Some x r.0 (sym e ∙ ap (slice_get m.path) q ∙ r.1) in omega (arith, is)
      | no q ↦ omega (arith, path_rises placed s i j x r.0 e r.1 (omega arith))
    ]

-- a firm node of a path ends the front that holds all made until it
pub front_at : (w : World) → Sound w → (u i x : ℕ) (m : Member)
    → slice_get w.members u ≡ Some m → slice_get m.path i ≡ Some x → is_firm w x ≡ true → (k : ℕ) → x < k
    → slice_get (front w k m.path) i ≡ Some x
front_at w s u i x m found e firm k h = kept_if_all_pass _ m.path i x e (λ j y le f.
    let o = s.units u m found in
    let within = o.made i x e in
    both_and _ _ (firm_past w x y s.placed within firm (path_depends o i j x y e f le))
    (true_lt y k (elim (ℕ_discrete j i) [
      | yes q ↦ let is : y ≡ x = same_Some y x (sym f ∙ rw q e) in omega (arith, is)
      | no q ↦ omega (arith, path_rises s.placed o j i y x f e (omega arith))
    ])))

-- ---- fronts and the next node

-- a front is the path up to its length
take_len : (n : ℕ) (xs : List ℕ) → take (length (take n xs)) xs ≡ take n xs
take_len zero xs = refl
take_len (suc n) [] = refl
take_len (suc n) (x ∷ xs) = ap (λ t. x ∷ t) (take_len n xs)

front_take : (p : ℕ → Bool) (path : List ℕ) (n : ℕ) → length (take_while p path) ≡ n → take_while p path ≡ take n path
front_take p path n e = sym (take_len (prefix_len p path) path) ∙ ap (λ k. take k path) e

-- as many pass as stand before the first that does not
pub front_length : (p : ℕ → Bool) (path : List ℕ) (n : ℕ)
    → n ≤ length path → ((j y : ℕ) → j < n → slice_get path j ≡ Some y → p y ≡ true)
    → ((y : ℕ) → slice_get path n ≡ Some y → p y ≡ false) → length (take_while p path) ≡ n
front_length p [] n h before at = let e : n ≡ 0 = omega arith in rw e refl
front_length p (y ∷ ys) zero h before at = rw (take_while-cons p y ys, at y refl) refl
front_length p (y ∷ ys) (suc n) h before at =
    rw (take_while-cons p y ys, before 0 y (omega arith) refl)
    (ap suc (front_length p ys n (omega arith) (λ j z l e. before (suc j) z (omega arith) e) at))

-- tests that agree on a list have the same front of it
pub same_front : (p q : ℕ → Bool) (path : List ℕ)
    → ((j y : ℕ) → slice_get path j ≡ Some y → p y ≡ q y) → take_while p path ≡ take_while q path
same_front p q [] h = refl
same_front p q (y ∷ ys) h =
    rw (take_while-cons p y ys, take_while-cons q y ys, h 0 y refl, same_front p q ys (λ j z e. h (suc j) z e)) refl

both_no : (a b : Bool) → b ≡ false → (a && b) ≡ false
both_no true b e = e
both_no false b e = refl

module _ (w : World) (s : Sound w) (u i x : ℕ) (m : Member)
    (found : slice_get w.members u ≡ Some m) (on : slice_get m.path i ≡ Some x) (firm : is_firm w x ≡ true) where
  earlier_firm : (j y k : ℕ) → j ≤ i
      → slice_get m.path j ≡ Some y → (j < i → y < k) → (j ≡ i → y < k) → (is_firm w y && nat_lt y k) ≡ true
  earlier_firm j y k le e below equal =
      let o = s.units u m found in
      both_and _ _ (firm_past w x y s.placed (o.made i x on) firm (path_depends o i j x y on e le))
      (true_lt y k (elim (ℕ_discrete j i) [ yes q ↦ equal q | no q ↦ below (omega arith) ]))

  -- before a firm node of the path the front is the path up to it
  pub front_before : front w x m.path ≡ take i m.path
  front_before =
      let o = s.units u m found in
      front_take _ m.path i (front_length _ m.path i (let t = slice_get_within m.path i x on in omega arith)
      (λ j y l e. earlier_firm
      j y x (omega arith) e (λ h. path_rises s.placed o j i y x e on h) (λ h. absurd (omega arith)))
      (λ y e. let is : y ≡ x = same_Some y x (sym e ∙ on) in
      both_no (is_firm w y) (nat_lt y x) (grind (arith, nat_tests))))

  -- and after it the path with it
  pub front_after : front w (suc x) m.path ≡ take (suc i) m.path
  front_after =
      let o = s.units u m found in
      front_take _ m.path (suc i) (front_length _ m.path (suc i) (slice_get_within m.path i x on)
      (λ j y l e. earlier_firm j y (suc x) (omega arith) e
      (λ h. let t = path_rises s.placed o j i y x e on h in omega arith)
      (λ h. let is : y ≡ x = same_Some y x (sym e ∙ ap (slice_get m.path) h ∙ on) in omega (arith, is)))
      (λ y e. let t = path_rises s.placed o i (suc i) x y on e (omega arith) in
      both_no (is_firm w y) (nat_lt y (suc x)) (grind (arith, nat_tests))))

-- a node that is not firm, or not of the path, leaves the front
pub front_skips : (w : World) (x : ℕ) (path : List ℕ)
    → (is_firm w x ≡ false) ⊎ ((j : ℕ) → ¬ (slice_get path j ≡ Some x)) → front w (suc x) path ≡ front w x path
front_skips w x path h = same_front _ _ path (λ j y e. elim (ℕ_discrete y x) [
  | yes q ↦ elim h [
    | inl f ↦ let g : is_firm w y ≡ false = ap (is_firm w) q ∙ f in rw g refl
    | inr k ↦ absurd (k j (rw q at e))
  ]
  | no q ↦ let t : nat_lt y (suc x) ≡ nat_lt y x = grind (arith, nat_tests) in rw t refl
])

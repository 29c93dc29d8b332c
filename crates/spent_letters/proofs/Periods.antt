-- The period of letters.
use Rattle.std.proofs.Common.{◌≡◌, refl, ◌∙◌, ap, ℕ, zero, suc, ◌+◌, ◌-◌, ◌%◌, ◌<◌, ◌≤◌, List}
use Rattle.std.proofs.Common.{inl, inr, length, arith, get_or, drop}
use Rattle.std.specs.Prelude.{◌/◌, ◌==◌, ◌&&◌, Option, true, false, Some, slice_get}
use Rattle.std.proofs.lemmas.Nat.{mod_below}
use Rattle.std.proofs.lemmas.List.{drop_all}
use Rattle.std.proofs.lemmas.Option.{slice_get-get_or}
use Rattle.theory.proofs.ListLaws.{and_both, bool_cases, both_and, eq_same, eq_true}
use Rattle.theory.proofs.Simulation.{drop_at}
use Rattle.spent_letters.specs.declared.letter.SpentLetter.{SpentLetter}
use Rattle.spent_letters.specs.declared.stretch.TheConstants.{HEAD}
use Rattle.spent_letters.specs.Stretches.{after, agree, least_above, period, repeats, same_letter, told}

-- Two with the same sender and the same receiver are one.
pub same_is : (a b : SpentLetter) → same_letter a b ≡ true → a ≡ b
same_is a b e =
    let both = and_both (a.source == b.source) (a.receiver == b.receiver) e in
    ap (λ (n : ℕ). let t : SpentLetter = record { source = n; receiver = a.receiver } in t)
    (eq_true a.source b.source both.0)
    ∙ ap (λ (n : ℕ). let t : SpentLetter = record { source = b.source; receiver = n } in t)
    (eq_true a.receiver b.receiver both.1)

pub is_same : (a : SpentLetter) → same_letter a a ≡ true
is_same a = both_and (a.source == a.source) (a.receiver == a.receiver) (eq_same a.source) (eq_same a.receiver)

-- a least distance is one, and not above how many they are
pub least_bounds : (head : List SpentLetter) (n left : ℕ) → n + left ≤ length head → 0 < length head
    → (0 < least_above head n left) × (least_above head n left ≤ length head)
unfolding least_above
least_bounds head n zero h some = (some, omega (arith))
least_bounds head n (suc left) h some = elim (bool_cases (repeats head (n + 1))) [
  | inl e ↦ rw e (omega (arith), omega (arith, h))
  | inr e ↦ rw e (least_bounds head (n + 1) left (omega (arith, h)) some)
]

-- so is the period of as many as are kept in full
pub period_bounds : (head : List SpentLetter) → length head ≡ HEAD → (0 < period head) × (period head ≤ HEAD)
period_bounds head e =
    let half : 0 + length head / 2 ≤ length head = rw e (let t : 0 + 128 / 2 ≤ 128 = omega (arith) in t) in
    let bounds = least_bounds head 0 (length head / 2) half (omega (arith, e)) in
    (bounds.0, omega (arith, bounds.1, e))

-- A letter to stand where there is none.
pub blank : SpentLetter
blank = record { source = 0; receiver = 0 }

-- One follows them.
pub after_is : (head : List SpentLetter) (more : ℕ) → length head ≡ HEAD
    → after head more ≡ Some (get_or head ((HEAD + more) % period head) blank)
after_is head more e =
    let bounds = period_bounds head e in
    let below = mod_below (HEAD + more) (period head) bounds.0 in
    slice_get-get_or head ((HEAD + more) % period head) blank (omega (arith, e, below, bounds.1))

-- ---- how a search goes on

-- One letter is compared with another one, and then those behind them.
pub agree_step : (xs : List SpentLetter) (n m : ℕ) (x y : SpentLetter) → slice_get xs n ≡ Some x
    → slice_get xs m ≡ Some y
    → agree (drop n xs) (drop m xs) ≡ (same_letter x y && agree (drop (suc n) xs) (drop (suc m) xs))
unfolding agree
agree_step xs n m x y e f = rw (drop_at xs n x e) (rw (drop_at xs m y f) refl)

pub agree_end : (xs ys : List SpentLetter) (n : ℕ) → length xs ≤ n → agree (drop n xs) ys ≡ true
unfolding agree
agree_end xs ys n h = rw (drop_all n xs h) refl

pub told_as : (o : Option SpentLetter) (y x : SpentLetter) → o ≡ Some y → same_letter y x ≡ told o x
unfolding told
told_as o y x e = rw e refl

-- The least distance is the one that was found,
pub least_found : (head : List SpentLetter) (n left : ℕ) → repeats head (n + 1) ≡ true → 0 < left
    → least_above head n left ≡ n + 1
unfolding least_above
least_found head n zero e h = absurd (omega (arith, h))
least_found head n (suc left) e h = rw e refl

-- or is above it,
pub least_passed : (head : List SpentLetter) (n most : ℕ) → repeats head (n + 1) ≡ false → n < most
    → least_above head n (most - n) ≡ least_above head (n + 1) (most - (n + 1))
unfolding least_above
least_passed head n most e h =
    ap (least_above head n) (let t : most - n ≡ suc (most - (n + 1)) = omega (arith, h) in t) ∙ rw e refl

-- and where none is left it is how many they are.
pub least_end : (head : List SpentLetter) (n most : ℕ) → most ≤ n → least_above head n (most - n) ≡ length head
unfolding least_above
least_end head n most h = ap (least_above head n) (let t : most - n ≡ 0 = omega (arith, h) in t)

-- Receipts from outside along what is kept of a path.
use Rattle.std.proofs.Common.{◌≡◌, refl, ℕ, zero, suc, ◌+◌, ◌-◌, ◌<◌, ◌≤◌, cond, List, [], ◌∷◌, ◌++◌, length, take}
use Rattle.std.proofs.Common.{drop, arith, add-one}
use Rattle.std.proofs.lemmas.List.Sums.{sum_by_push, sum_by-take-drop, count_by-le-length}
use Rattle.std.proofs.lemmas.List.{drop-drop, length-take}
use Rattle.compact.specs.Compact.{Interval}
use Rattle.compact.specs.Steps.{from_outside, no_letter}
use Rattle.rollback.specs.Units.{IsOutside}

-- one for an interval that received from outside
abbrev pub one_if : Interval → ℕ
one_if i = cond (no_letter i.letter) 1 0

-- a path with one more interval behind its first
pub outside_push : (xs : List Interval) (i : Interval)
    → 0 < length xs → from_outside (drop 1 (xs ++ i ∷ [])) ≡ from_outside (drop 1 xs) + one_if i
outside_push [] i h = absurd (omega arith)
outside_push (x ∷ xs) i h = sum_by_push one_if xs i

-- what stands up to a place and from it on
pub outside_cut : (xs : List Interval) (k : ℕ)
    → 0 < k → from_outside (drop 1 (take k xs)) + from_outside (drop k xs) ≡ from_outside (drop 1 xs)
outside_cut xs zero h = absurd (omega arith)
outside_cut [] (suc k) h = refl
outside_cut (x ∷ xs) (suc k) h = sum_by-take-drop one_if xs k

-- what stands up to a place that is the first then, and behind it
pub outside_drop : (xs : List Interval) (k : ℕ)
    → from_outside (take k (drop 1 xs)) + from_outside (drop 1 (drop k xs)) ≡ from_outside (drop 1 xs)
outside_drop [] zero = refl
outside_drop [] (suc k) = refl
outside_drop (x ∷ xs) zero = sum_by-take-drop one_if xs 0
outside_drop (x ∷ xs) (suc k) = rw (drop-drop 1 k xs, add-one k) (sum_by-take-drop one_if xs (suc k))

-- no more than are counted stand from a place on
pub outside_behind : (base outside : ℕ) (xs : List Interval) (k : ℕ)
    → IsOutside base outside xs → 0 < k → from_outside (drop k xs) ≤ outside
outside_behind base outside xs k o h = let c = outside_cut xs k h in let a = o.kept in omega (arith, c, a)

-- with one more interval
pub outside_taken : (base outside : ℕ) (xs : List Interval) (i : Interval)
    → IsOutside base outside xs → 0 < length xs → IsOutside base (outside + one_if i) (xs ++ i ∷ [])
outside_taken base outside xs i o h =
    let p = outside_push xs i h in
    let a = o.kept in
    let b = o.before in
    record { kept = omega (arith, p, a); before = omega (arith, p, b) }

-- with so many intervals at most
pub outside_shorter : (base outside : ℕ) (xs : List Interval) (k : ℕ)
    → IsOutside base outside xs → 0 < k → IsOutside base (outside - from_outside (drop k xs)) (take k xs)
outside_shorter base outside xs k o h =
    let c = outside_cut xs k h in
    let a = o.kept in
    let b = o.before in
    record { kept = omega (arith, c, a); before = omega (arith, c, a, b) }

-- with another base
pub outside_based : (base outside n : ℕ) (xs : List Interval)
    → IsOutside base outside xs → base ≤ n → IsOutside n outside (drop (n - base) xs)
outside_based base outside n xs o h =
    let d = outside_drop xs (n - base) in
    let a = o.kept in
    let b = o.before in
    let few = count_by-le-length (λ (i : Interval). no_letter i.letter) (take (n - base) (drop 1 xs)) in
    let short = length-take (n - base) (drop 1 xs) in
    record { kept = omega (arith, d, a); before = omega (arith, d, b, few, short, h) }

-- ---- counts of a whole path

-- The receipts from outside are counted still where an interval is added.
pub counts_taken : (outside before : ℕ) (xs : List Interval) (i : Interval) → 0 < length xs
    → outside ≡ before + from_outside (drop 1 xs) → outside + one_if i ≡ before + from_outside (drop 1 (xs ++ i ∷ []))
counts_taken outside before xs i h is = let p = outside_push xs i h in omega (arith, p, is)

-- The receipts from outside are counted still where the intervals are cut to the first few.
pub counts_shorter : (outside before : ℕ) (xs : List Interval) (k : ℕ)
    → 0 < k → outside ≡ before + from_outside (drop 1 xs)
    → outside - from_outside (drop k xs) ≡ before + from_outside (drop 1 (take k xs))
counts_shorter outside before xs k h is = let c = outside_cut xs k h in omega (arith, c, is)

-- The receipts from outside are counted still where the first intervals are forgotten.
pub counts_based : (outside before k : ℕ) (xs : List Interval) → outside ≡ before + from_outside (drop 1 xs)
    → outside ≡ (before + from_outside (take k (drop 1 xs))) + from_outside (drop 1 (drop k xs))
counts_based outside before k xs is = let d = outside_drop xs k in omega (arith, d, is)

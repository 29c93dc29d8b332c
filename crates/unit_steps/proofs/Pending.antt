-- What holds of a letter that depends on few units.
use Rattle.std.proofs.Common.{◌+◌, ◌≤◌, ℕ, suc, Bool, true, false, List, [], ◌∷◌, cond, length, arith}
use Rattle.model.specs.declared.names.Mark.{Mark}
use Rattle.model.specs.declared.names.Row.{Row}
use Rattle.orphan.specs.Tests.{count_marks, unstable_count}

one_more : (b : Bool) (n m : ℕ) → n ≤ m → cond b 1 0 + n ≤ suc m
one_more true n m few = let t : 1 + n ≤ suc m = omega (arith, few) in t
one_more false n m few = let t : 0 + n ≤ suc m = omega (arith, few) in t

few_counted : (p : ℕ → Mark → Bool) (u : ℕ) (marks : List Mark) → count_marks p u marks ≤ length marks
few_counted p u [] = let t : 0 ≤ 0 = omega arith in t
few_counted p u (g ∷ marks) =
    one_more (p u g) (count_marks p (suc u) marks) (length marks) (few_counted p (suc u) marks)

-- no more units are unstable than the vector has entries
pub few_unstable : (rows : List Row) (stable_lengths : List ℕ) (vector : List Mark)
    → unstable_count rows stable_lengths vector ≤ length vector
few_unstable rows stable_lengths vector = few_counted _ 0 vector

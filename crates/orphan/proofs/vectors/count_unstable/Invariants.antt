use Rattle.std.proofs.Common.{◌≡◌, ◌+◌, ◌≤◌, drop, not}
use Rattle.orphan.specs.Tests.{count_marks, is_stable_by, unstable_count}
use Rattle.orphan.proofs.vectors.count_unstable.Given as goal

-- the count so far and what is to come
abbrev pub invariant-loop-unit : goal.invariant-loop-unit
invariant-loop-unit l = record {
  so_far : l.count ≤ l.unit;
  all : l.count + count_marks (λ u g. not (is_stable_by l.table l.stable_lengths u g))
      l.unit (drop l.unit l.marks) ≡ unstable_count l.table l.stable_lengths l.marks;
}

use Rattle.std.proofs.Common.{◌≡◌, drop, not}
use Rattle.theory.specs.Laws.{any_mark}
use Rattle.orphan.specs.Tests.{is_stable_by, is_unstable_by}
use Rattle.orphan.proofs.vectors.any_unstable.Given as goal

-- the entries from here on tell what all tell
abbrev pub invariant-loop-unit : goal.invariant-loop-unit
invariant-loop-unit l = any_mark (λ u g. not (is_stable_by l.table l.stable_lengths u g))
    l.unit (drop l.unit l.marks) ≡ is_unstable_by l.table l.stable_lengths l.marks

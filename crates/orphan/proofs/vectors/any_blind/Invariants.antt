use Rattle.std.proofs.Common.{◌≡◌, drop, take, not}
use Rattle.model.specs.World.{mark_told}
use Rattle.theory.specs.Laws.{any_mark}
use Rattle.orphan.specs.Tests.{is_blind_by}
use Rattle.orphan.proofs.vectors.any_blind.Given as goal

-- the entries from here on tell what all tell
abbrev pub invariant-loop-unit : goal.invariant-loop-unit
invariant-loop-unit l = any_mark (λ u g. not (mark_told (take l.known l.table) u g))
    l.unit (drop l.unit l.marks) ≡ is_blind_by (take l.known l.table) l.marks

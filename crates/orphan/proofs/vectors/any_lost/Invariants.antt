use Rattle.std.proofs.Common.{◌≡◌, drop, take}
use Rattle.model.specs.World.{mark_lost}
use Rattle.theory.specs.Laws.{any_mark}
use Rattle.orphan.specs.Tests.{is_orphan_by}
use Rattle.orphan.proofs.vectors.any_lost.Given as goal

-- the entries from here on tell what all tell
abbrev pub invariant-loop-unit : goal.invariant-loop-unit
invariant-loop-unit l = any_mark
    (mark_lost (take l.known l.table)) l.unit (drop l.unit l.marks) ≡ is_orphan_by (take l.known l.table) l.marks

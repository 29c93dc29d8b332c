use Rattle.std.proofs.Common.{◌≡◌, ◌&&◌, ◌==◌, drop, not}
use Rattle.std.specs.List.{list_any}
use Rattle.orphan.proofs.without_rows.incarnation_bits.Given as goal

-- the bits so far and what is to come
abbrev pub invariant-loop-mark : goal.invariant-loop-mark
invariant-loop-mark l = not (list_any (λ g. not (g.incarnation == 0)) l.marks)
    ≡ ((l.bits == 0) && not (list_any (λ g. not (g.incarnation == 0)) (drop l.mark-index l.marks)))

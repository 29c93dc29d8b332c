use Rattle.std.proofs.Common.{◌≡◌, ◌-◌, drop}
use Rattle.spent_letters.specs.Stretches.{agree}
use Rattle.spent_letters.proofs.stretch.is_repeated.Given as goal

-- what is left decides
abbrev pub invariant-loop-at : goal.invariant-loop-at
invariant-loop-at l =
    agree (drop l.at l.head) (drop (l.at - l.period) l.head) ≡ agree (drop l.period l.head) l.head

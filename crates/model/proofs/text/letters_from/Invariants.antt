use Rattle.std.proofs.Common.{◌≡◌, ◌++◌, ◌+◌, ◌-◌}
use Rattle.model.specs.Lists.{numbers_from}
use Rattle.model.proofs.text.letters_from.Given as goal

abbrev pub invariant-loop-i : goal.invariant-loop-i
invariant-loop-i l = l.letters.items ++ numbers_from (l.first + l.i) (l.n - l.i) ≡ numbers_from l.first l.n

use Rattle.std.proofs.Common.{◌≡◌, ◌++◌, drop}
use Rattle.codec.proofs.spent.push_each.Given as goal

abbrev pub invariant-loop-letter : goal.invariant-loop-letter
invariant-loop-letter l = l.letters ++ drop l.letter-index l.more ≡ l.initial.letters ++ l.more

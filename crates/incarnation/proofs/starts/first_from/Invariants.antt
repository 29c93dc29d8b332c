use Rattle.incarnation.specs.Starts.{AllHigh}
use Rattle.incarnation.proofs.starts.first_from.Given as goal

-- all before this one are above the index
abbrev pub invariant-loop-at : goal.invariant-loop-at
invariant-loop-at l = AllHigh l.starts l.index l.from l.at

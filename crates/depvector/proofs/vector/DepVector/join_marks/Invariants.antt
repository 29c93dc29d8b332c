use Rattle.std.proofs.Common.{◌≡◌, take}
use Rattle.depvector.specs.Vectors.{joined}
use Rattle.depvector.proofs.vector.DepVector.join_marks.Given as goal

-- the entries before this one are joined
abbrev pub invariant-loop-unit : goal.invariant-loop-unit
invariant-loop-unit l = l.own ≡ joined l.initial.own (take l.unit l.other)

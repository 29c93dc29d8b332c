use Rattle.audit.proofs.Beginning.{IsSoFar}
use Rattle.audit.proofs.outputs.first_differing.Given as goal

abbrev pub invariant-loop-i : goal.invariant-loop-i
invariant-loop-i g l = IsSoFar l.workers l.released l.i

use Rattle.std.proofs.Common.{◌≡◌, ◌≤◌, ◌+◌, drop}
use Rattle.audit.specs.Audits.{joins}
use Rattle.auditor.proofs.checkable.join_count.Given as goal

abbrev pub invariant-loop-moved : goal.invariant-loop-moved
invariant-loop-moved l = (l.count + joins (drop l.moved-index l.moves) ≡ joins l.moves) × (l.count ≤ l.moved-index)

use Rattle.std.proofs.Common.{◌≡◌, ◌-◌, ◌≤◌, length}
use Rattle.rollback.specs.Units.{places}
use Rattle.unit_steps.specs.Receipts.{IsFrontier, frontier_of}
use Rattle.unit_steps.proofs.frontier.frontier_after.Given as goal

-- what was found firm, with what is firm behind it, is all that is firm
abbrev pub invariant-loop-firm : goal.invariant-loop-firm
invariant-loop-firm g l = record {
  base : l.unit_state.base ≤ l.firm;
  value : IsFrontier (length l.stable_lengths) l.unit_state l.frontier → (l.firm ≤ places l.unit_state) × (frontier_of
      l.table l.stable_lengths l.unit_state l.firm ≡ frontier_of l.table l.stable_lengths l.unit_state l.frontier);
}

abbrev pub decreases-loop-firm : goal.decreases-loop-firm
decreases-loop-firm g l = places l.unit_state - l.firm

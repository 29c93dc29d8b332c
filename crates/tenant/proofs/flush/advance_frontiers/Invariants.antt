use Rattle.std.proofs.Common.{◌≡◌, ◌<◌, ◌≤◌, ℕ, length}
use Rattle.std.specs.Prelude.{Some, slice_get}
use Rattle.unit_steps.specs.Receipts.{IsFrontier, frontier_of}
use Rattle.tenant.specs.Kept.{Member}
use Rattle.tenant.proofs.flush.advance_frontiers.Given as goal

-- the frontiers up to here have gone on, and those from here on are as they were
abbrev pub invariant-loop-at : goal.invariant-loop-at
invariant-loop-at g l = record {
  len : length l.frontiers.items ≡ length l.fn.frontiers.items;
  done : (u : ℕ) (m : Member _) (f : ℕ) → u < l.at → slice_get l.members u ≡ Some m
      → slice_get l.fn.frontiers.items u ≡ Some f → IsFrontier (length l.stable_lengths) m.unit_state f
      → slice_get l.frontiers.items u ≡ Some (frontier_of l.table l.stable_lengths m.unit_state f);
  rest : (u : ℕ) → l.at ≤ u → slice_get l.frontiers.items u ≡ slice_get l.fn.frontiers.items u;
}

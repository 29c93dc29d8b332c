use Rattle.std.proofs.Common.{◌≡◌, ◌-◌, ◌<◌, ◌≤◌, ℕ, length, true, false, get_or}
use Rattle.orphan.specs.Tests.{is_orphan_by}
use Rattle.rollback.specs.Units.{OrphansAreTail, unknown}
use Rattle.rollback.proofs.path.count_before_orphan.Given as goal

-- the first orphan is neither below the one nor above the other
abbrev pub invariant-loop-low : goal.invariant-loop-low
invariant-loop-low l = record {
  within : (l.low ≤ l.high) × (l.high ≤ length l.intervals.items);
  below : OrphansAreTail l.table l.intervals.items
      → (k : ℕ) → k < l.low → is_orphan_by l.table (get_or l.intervals.items k unknown).vector ≡ false;
  at : l.high < length l.intervals.items → is_orphan_by l.table (get_or l.intervals.items l.high unknown).vector ≡ true;
}

abbrev pub decreases-loop-low : goal.decreases-loop-low
decreases-loop-low l = l.high - l.low

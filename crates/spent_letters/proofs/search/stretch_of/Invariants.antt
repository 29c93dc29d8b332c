use Rattle.std.proofs.Common.{◌≡◌, ◌-◌, ◌<◌, ◌≤◌, length}
use Rattle.std.specs.Prelude.{slice_get, Some}
use Rattle.spent_letters.specs.Stretches.{Stretch}
use Rattle.spent_letters.proofs.search.stretch_of.Given as goal

-- It begins no later, and the one at the other end does.
abbrev pub invariant-loop-high : goal.invariant-loop-high
invariant-loop-high l = record {
  order : l.low < l.high;
  within : l.high ≤ length l.stretches;
  below : (s : Stretch) → slice_get l.stretches l.low ≡ Some s → s.start ≤ l.number;
  above : (s : Stretch) → slice_get l.stretches l.high ≡ Some s → l.number < s.start;
}

abbrev pub decreases-loop-high : goal.decreases-loop-high
decreases-loop-high l = l.high - l.low

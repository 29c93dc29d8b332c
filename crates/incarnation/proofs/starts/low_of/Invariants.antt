use Rattle.std.proofs.Common.{◌≡◌, ℕ, ◌+◌, ◌<◌, List, length}
use Rattle.incarnation.specs.Starts.{AreLows, IsBelowLast}
use Rattle.incarnation.proofs.starts.low_of.Given as goal

-- it is below all that were looked at
abbrev pub invariant-loop-span : goal.invariant-loop-span
invariant-loop-span l = record {
  reach : l.end + l.span ≡ length l.lows + l.size;
  some : 0 < l.span;
  below : (xs : List ℕ) → AreLows xs l.lows l.size
      → length xs ≡ length l.lows + 1 → IsBelowLast xs l.own l.size → IsBelowLast xs l.low l.span;
}

abbrev pub decreases-loop-span : goal.decreases-loop-span
decreases-loop-span l = l.end

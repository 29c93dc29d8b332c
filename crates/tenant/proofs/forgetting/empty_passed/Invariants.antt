use Rattle.std.proofs.Common.{◌≡◌, ◌≤◌, ◌-◌, drop, take}
use Rattle.tenant.specs.Bases.{emptied_all}
use Rattle.tenant.proofs.forgetting.empty_passed.Given as goal

-- the letters up to here gave up their contents
abbrev pub invariant-loop-index : goal.invariant-loop-index
invariant-loop-index g l = record {
  letters : l.letters.items ≡ emptied_all
      l.fn.letters.items (take (l.index - l.unit_state.base) (drop 1 l.unit_state.intervals));
  from : l.unit_state.base ≤ l.index;
  none : l.base ≤ l.unit_state.base → l.index ≤ l.unit_state.base;
}

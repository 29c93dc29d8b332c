use Rattle.std.proofs.Common.{◌≡◌, ◌++◌}
use Rattle.snapshot.proofs.holds.hold_of.Given as goal

-- what is there and what is to come is the same all along
abbrev pub invariant-loop-held : goal.invariant-loop-held
invariant-loop-held l = record {
  unit : l.hold.unit ≡ l.fn.unit;
  outputs : l.hold.outputs ++ l.held-iterator.rest.items
      ≡ l.initial.hold.outputs ++ l.initial.held-iterator.rest.items;
}

use Rattle.std.proofs.Common.{◌≡◌, ◌+◌, ◌≤◌, ◌++◌, length}
use Rattle.std.specs.VecDeque.{deque_capacity, deque_len}
use Rattle.output_commit.specs.Holds.{held_of}
use Rattle.output_commit.proofs.hold.Hold.add_reserved.Given as goal

-- what is held and what is to come is the same all along, and there is room for it
abbrev pub invariant-loop-text : goal.invariant-loop-text
invariant-loop-text l = record {
  unit : l.self-inside.unit ≡ l.fn.self.unit;
  all : l.self-inside.outputs.items ++ held_of l.mark l.text-iterator.rest.items ≡ l.fn.self.outputs
      ++ held_of l.mark l.initial.text-iterator.rest.items;
  room : deque_len l.self-inside.outputs + length l.text-iterator.rest.items ≤ deque_capacity l.self-inside.outputs;
}

use Rattle.std.proofs.Common.{◌≡◌, ◌+◌, ◌≤◌, ◌++◌, length}
use Rattle.std.specs.VecDeque.{deque_capacity, deque_len}
use Rattle.unit_steps.proofs.sent_letters.push_all.Given as goal

-- the letters and those to come are the same all along, and there is room for those
abbrev pub invariant-loop-letter : goal.invariant-loop-letter
invariant-loop-letter l = record {
  all : l.letters.items ++ l.letter-iterator.rest.items ≡ l.initial.letters.items
      ++ l.initial.letter-iterator.rest.items;
  room : deque_len l.letters + length l.letter-iterator.rest.items ≤ deque_capacity l.letters;
}

use Rattle.std.proofs.Common.{◌≡◌, ◌+◌, ℕ, length}
use Rattle.std.specs.Prelude.{vec_capacity}
use Rattle.output_commit.specs.Holds.{gone_of, line_texts}
use Rattle.output_commit.proofs.outlet.push_empty.Given as goal

-- what was released stays
abbrev pub invariant-loop : goal.invariant-loop
invariant-loop l = record {
  long : length l.lines.items ≡ length l.initial.lines.items + l.counter;
  capacity : vec_capacity l.lines ≡ vec_capacity l.initial.lines;
  gone : (u : ℕ) → gone_of l.lines.items u ≡ gone_of l.initial.lines.items u;
  texts : (u : ℕ) → line_texts l.lines.items u ≡ line_texts l.initial.lines.items u;
}

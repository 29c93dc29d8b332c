use Rattle.std.proofs.Common.{◌≡◌, ◌+◌, ◌≤◌, drop, length}
use Rattle.std.specs.List.{filter}
use Rattle.unit_steps.specs.SentLetters.{is_spent_to, spent_letter}
use Rattle.unit_steps.proofs.sent_letters.count_front.Given as goal

-- those that were counted, and those to come
abbrev pub invariant-loop-number : goal.invariant-loop-number
invariant-loop-number l = record {
  all : l.count + length (filter (λ s. is_spent_to l.unit (spent_letter s)) (drop l.number l.spent))
      ≡ length (filter (λ s. is_spent_to l.unit (spent_letter s)) l.spent);
  few : l.count ≤ l.number;
}

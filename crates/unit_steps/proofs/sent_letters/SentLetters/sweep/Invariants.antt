use Rattle.std.proofs.Common.{◌≡◌}
use Rattle.unit_steps.proofs.sent_letters.SentLetters.sweep.Given as goal

-- the letters stay what they were
abbrev pub invariant-loop : goal.invariant-loop
invariant-loop l = l.self.items ≡ l.initial.self.items

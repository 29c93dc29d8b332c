use Rattle.std.proofs.Common.{◌≡◌, ◌++◌, drop}
use Rattle.unit_steps.specs.SentLetters.{front}
use Rattle.unit_steps.proofs.sent_letters.SentLetters.pack_front.Given as goal

-- those that are packed, and those to come
abbrev pub invariant-loop-number : goal.invariant-loop-number
invariant-loop-number l = l.spent ++ front (drop l.number l.self.items) ≡ front l.self.items

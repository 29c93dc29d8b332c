use Rattle.std.proofs.Common.{◌+◌, ◌≤◌, ◌++◌, List, length, drop, vec_len}
use Rattle.std.specs.Prelude.{vec_capacity}
use Rattle.model.specs.declared.replies.Reply.{Reply}
use Rattle.book.specs.Entries.{Ledger}
use Rattle.book.specs.History.{Ran}
use Rattle.book.proofs.book.Book.run.Given as goal

abbrev pub invariant-loop-step : goal.invariant-loop-step
invariant-loop-step g l =
    (vec_len l.replies + length (drop l.step-index l.steps) ≤ vec_capacity l.replies)
    × ((rest : List Reply) (after : Ledger)
    → Ran l.self (drop l.step-index l.steps) rest after → Ran l.fn.self l.steps (l.replies.items ++ rest) after)

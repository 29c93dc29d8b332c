use Rattle.std.proofs.Common.{◌≡◌, ◌++◌, drop}
use Rattle.model.specs.History.{replies_to}
use Rattle.book.proofs.book.replies_in.Given as goal

abbrev pub invariant-loop-entry : goal.invariant-loop-entry
invariant-loop-entry l =
    l.replies.items ++ replies_to l.tenant (drop l.entry-index l.history) ≡ replies_to l.tenant l.history

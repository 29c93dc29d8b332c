use Rattle.std.proofs.Common.{◌≡◌, ◌≤◌, length, drop}
use Rattle.workers.specs.Interleaves.{replies_by}
use Rattle.workers.proofs.matched.has_receipts.Given as goal

abbrev pub invariant-loop-entry : goal.invariant-loop-entry
invariant-loop-entry l =
    (l.next ≤ length l.receipts)
    × (replies_by l.feed (drop l.entry-index l.history) ≡ drop l.next l.receipts
    → replies_by l.feed l.history ≡ l.receipts)

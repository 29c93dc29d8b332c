use Rattle.std.proofs.Common.{◌≡◌, ℕ, List, ◌++◌, drop}
use Rattle.book.specs.History.{entries_of}
use Rattle.auditor.specs.Parting.{part_in}
use Rattle.auditor.proofs.parts.map_of.Given as goal

abbrev pub invariant-loop-entry : goal.invariant-loop-entry
invariant-loop-entry l = (t : List ℕ)
    → part_in l.map t ++ entries_of t (drop l.entry-index l.history) ≡ entries_of t l.history

use Rattle.std.proofs.Common.{ℕ, ◌≤◌, List}
use Rattle.incarnation.specs.Starts.{AllHigh, AreLows}
use Rattle.incarnation.proofs.starts.skip.Given as goal

-- all that was skipped is above the index
abbrev pub invariant-loop : goal.invariant-loop
invariant-loop l =
    record { after : l.from ≤ l.at; high : (xs : List ℕ) → AreLows xs l.lows l.size → AllHigh xs l.index l.from l.at }

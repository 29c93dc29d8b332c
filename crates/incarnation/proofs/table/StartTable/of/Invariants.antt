use Rattle.std.proofs.Common.{◌≡◌, take}
use Rattle.incarnation.proofs.table.StartTable.of.Given as goal

-- the table has the rows before this one
abbrev pub invariant-loop-row : goal.invariant-loop-row
invariant-loop-row l = l.table ≡ take l.row-index l.rows

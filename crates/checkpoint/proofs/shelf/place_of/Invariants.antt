use Rattle.std.proofs.Common.{◌≡◌, ◌+◌, drop, true}
use Rattle.std.specs.List.{list_any, position_or_len}
use Rattle.checkpoint.specs.Shelves.{is_at}
use Rattle.checkpoint.proofs.shelf.place_of.Given as goal

-- the first of this index is still ahead
abbrev pub invariant-loop-x : goal.invariant-loop-x
invariant-loop-x g l = record {
  at : l.place ≡ l.x-index;
  ahead : list_any (is_at l.index) (drop l.x-index l.others) ≡ true;
  first : l.x-index + position_or_len
      (is_at l.index) (drop l.x-index l.others) ≡ position_or_len (is_at l.index) l.others;
}

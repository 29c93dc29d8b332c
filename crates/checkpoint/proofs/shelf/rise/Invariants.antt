use Rattle.std.proofs.Common.{◌≡◌, drop}
use Rattle.std.specs.Prelude.{option_map}
use Rattle.checkpoint.specs.Shelves.{are_rising}
use Rattle.checkpoint.proofs.shelf.rise.Given as goal

-- the snapshots from here on tell what all tell
abbrev pub invariant-loop-x : goal.invariant-loop-x
invariant-loop-x g l = are_rising l.last (drop l.x-index l.others)
    ≡ are_rising (option_map (λ s. s.index) l.base) l.others

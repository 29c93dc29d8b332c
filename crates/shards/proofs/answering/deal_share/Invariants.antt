use Rattle.std.proofs.Common.{◌≡◌, length, map, vec_capacity}
use Rattle.dealing.specs.Dealing.{dealt}
use Rattle.shards.specs.Blocks.{AreDealtTo}
use Rattle.shards.specs.Kept.{AreReadFrom}
use Rattle.shards.proofs.answering.deal_share.Given as goal

-- the lines up to this one are dealt, and what was found of those from it on is there still
abbrev pub invariant-loop-at : goal.invariant-loop-at
invariant-loop-at g l = record {
  hosts : map (λ s. s.host) l.shards ≡ map (λ s. s.host) l.fn.shards;
  capacity : vec_capacity l.places ≡ vec_capacity l.fn.places;
  read : AreReadFrom l.lines l.at l.reader.found.items;
  dealt : AreDealtTo (dealt (length l.fn.shards)) l.lines l.at l.places.items (map (λ s. s.steps.items) l.shards);
}

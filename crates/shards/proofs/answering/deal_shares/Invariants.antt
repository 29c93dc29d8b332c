use Rattle.std.proofs.Common.{◌≡◌, ◌<◌, ◌≤◌, ◌*◌, ℕ, get_or, length, map, min, vec_capacity}
use Rattle.dealing.specs.Dealing.{dealt}
use Rattle.shards.specs.Blocks.{AreDealtTo}
use Rattle.shards.specs.Kept.{AreReadFrom}
use Rattle.shards.proofs.answering.deal_shares.Given as goal

-- the shares of the readers so far are dealt, and what the others found is there still
abbrev pub invariant-loop-at : goal.invariant-loop-at
invariant-loop-at g l = record {
  hosts : map (λ s. s.host) l.shards ≡ map (λ s. s.host) l.fn.shards;
  capacity : vec_capacity l.places ≡ vec_capacity l.fn.places;
  read : (i : ℕ) (d : _) → l.at ≤ i → i < length l.readers
      → AreReadFrom l.lines (min (i * l.size) (length l.lines)) (get_or l.readers i d).found.items;
  dealt : AreDealtTo (dealt (length l.fn.shards)) l.lines (min (l.at * l.size) (length l.lines)) l.places.items
      (map (λ s. s.steps.items) l.shards);
}

use Rattle.std.proofs.Common.{◌≡◌, ◌%◌, drop}
use Rattle.dealing.specs.Dealing.{mixed}
use Rattle.shards.proofs.deal.mix.Given as goal

-- the number's remainder mixes the bytes so far
abbrev pub invariant-loop-byte : goal.invariant-loop-byte
invariant-loop-byte l = mixed (l.mixed % 65521) (drop l.byte-index l.bytes) ≡ mixed 0 l.bytes

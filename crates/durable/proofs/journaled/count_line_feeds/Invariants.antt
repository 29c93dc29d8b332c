use Rattle.std.proofs.Common.{◌≡◌, ◌≤◌, take}
use Rattle.durable.specs.Measuring.{line_feeds}
use Rattle.durable.proofs.journaled.count_line_feeds.Given as goal

abbrev pub invariant-loop-byte : goal.invariant-loop-byte
invariant-loop-byte l = record {
  counted : l.count ≡ line_feeds (take l.byte-index l.bytes);
  within : l.count ≤ l.byte-index;
}

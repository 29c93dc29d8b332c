use Rattle.std.proofs.Common.{◌≡◌, ◌+◌, take}
use Rattle.durable.specs.Measuring.{Measures}
use Rattle.durable.proofs.measuring.measure_bytes.Given as goal

abbrev pub invariant-loop-byte : goal.invariant-loop-byte
invariant-loop-byte l = record {
  measured : Measures l.fn.from (take l.byte-index l.bytes) l.initial.measured l.measured;
  bytes : l.measured.whole + l.measured.torn ≡ l.initial.measured.whole + l.initial.measured.torn + l.byte-index;
}

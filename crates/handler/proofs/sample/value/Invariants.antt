use Rattle.std.proofs.Common.{◌≡◌, drop}
use Rattle.model.specs.Sample.{value_of}
use Rattle.handler.proofs.Digits.{value_from}
use Rattle.handler.proofs.sample.value.Given as goal

abbrev pub invariant-loop-byte : goal.invariant-loop-byte
invariant-loop-byte l = value_from l.n (drop l.byte-index l.digits) ≡ value_of l.digits

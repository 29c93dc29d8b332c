use Rattle.std.proofs.Common.{◌≡◌, ◌++◌, List, ℕ, drop}
use Rattle.codec.specs.Codes.{AllFit, each_code}
use Rattle.codec.specs.Layers.{FitsInterval, interval_code}
use Rattle.snapshot.proofs.unit.encode_each_interval.Given as goal

-- what was appended goes on with the bytes of those from this one on, and all fit if these do
abbrev pub invariant-loop-place : goal.invariant-loop-place
invariant-loop-place g l = record {
  code : (rest : List ℕ) → l.out.items ++ each_code interval_code (drop l.place l.unit.intervals) rest
      ≡ l.initial.out.items ++ each_code interval_code l.unit.intervals rest;
  fits : AllFit FitsInterval (drop l.place l.unit.intervals) → AllFit FitsInterval l.unit.intervals;
}

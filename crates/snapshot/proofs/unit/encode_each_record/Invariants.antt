use Rattle.std.proofs.Common.{◌≡◌, ◌++◌, List, ℕ, drop}
use Rattle.codec.specs.Codes.{AllFit, FitsRecord, each_code, record_code}
use Rattle.snapshot.proofs.unit.encode_each_record.Given as goal

-- what was appended goes on with the bytes of those from this one on, and all fit if these do
abbrev pub invariant-loop-place : goal.invariant-loop-place
invariant-loop-place g l = record {
  code : (rest : List ℕ) → l.out.items ++ each_code record_code (drop l.place l.unit.volatile) rest
      ≡ l.initial.out.items ++ each_code record_code l.unit.volatile rest;
  fits : AllFit FitsRecord (drop l.place l.unit.volatile) → AllFit FitsRecord l.unit.volatile;
}

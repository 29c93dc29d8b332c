use Rattle.std.proofs.Common.{◌≡◌, ◌++◌, List, ℕ, drop}
use Rattle.codec.specs.Codes.{AllFit, each_code}
use Rattle.codec.specs.Layers.{FitsHeld, held_code}
use Rattle.snapshot.proofs.holds.encode_each_held.Given as goal

-- what was appended goes on with the bytes of those from this one on, and all fit if these do
abbrev pub invariant-loop-place : goal.invariant-loop-place
invariant-loop-place l = record {
  code : (rest : List ℕ) → l.out.items ++ each_code held_code (drop l.place l.hold.outputs) rest
      ≡ l.initial.out.items ++ each_code held_code l.hold.outputs rest;
  fits : AllFit FitsHeld (drop l.place l.hold.outputs) → AllFit FitsHeld l.hold.outputs;
}

use Rattle.std.proofs.Common.{◌≡◌, ◌++◌, List, ℕ, drop}
use Rattle.codec.specs.Codes.{AllFit, each_code}
use Rattle.codec.specs.Layers.{FitsStretch, stretch_code}
use Rattle.codec.proofs.spent.encode_each.Given as goal

-- what was appended goes on with the bytes of the stretches from this one on, and all fit if these do
abbrev pub invariant-loop-number : goal.invariant-loop-number
invariant-loop-number l = record {
  code : (rest : List ℕ) → l.out.items ++ each_code stretch_code (drop l.number l.stretches) rest
      ≡ l.initial.out.items ++ each_code stretch_code l.stretches rest;
  fits : AllFit FitsStretch (drop l.number l.stretches) → AllFit FitsStretch l.stretches;
}

use Rattle.std.proofs.Common.{◌≡◌, ◌++◌, List, ℕ, drop}
use Rattle.codec.specs.Codes.{AllFit, each_code}
use Rattle.codec.specs.Layers.{FitsLetter, letter_code}
use Rattle.codec.proofs.letters.encode_each.Given as goal

-- what was appended goes on with the bytes of the letters from this one on, and all fit if these do
abbrev pub invariant-loop-number : goal.invariant-loop-number
invariant-loop-number l = record {
  code : (rest : List ℕ) → l.out.items ++ each_code letter_code (drop l.number l.letters.items) rest
      ≡ l.initial.out.items ++ each_code letter_code (drop l.from l.letters.items) rest;
  fits : AllFit FitsLetter (drop l.number l.letters.items) → AllFit FitsLetter (drop l.from l.letters.items);
}

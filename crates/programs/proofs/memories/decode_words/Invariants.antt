use Rattle.std.proofs.Common.{◌≡◌, List, ℕ, length, drop, take}
use Rattle.codec.specs.Codes.{AllFit, each_code}
use Rattle.programs.specs.Coding.{FitsWord, word_code}
use Rattle.programs.proofs.memories.decode_words.Given as goal

-- of words that fit, so many were read, and the others are left
abbrev pub invariant-loop : goal.invariant-loop
invariant-loop l = record {
  size : length l.words.items ≡ l.counter;
  read : (vs : List ℕ) (rest : List ℕ) → length vs ≡ 1024 → AllFit FitsWord vs
      → l.initial.input ≡ each_code word_code vs rest
      → (l.words.items ≡ take l.counter vs) × (l.input ≡ each_code word_code (drop l.counter vs) rest)
      × AllFit FitsWord (drop l.counter vs);
}

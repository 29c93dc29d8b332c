use Rattle.std.proofs.Common.{◌≡◌, ◌++◌, List, ℕ, drop}
use Rattle.codec.specs.Codes.{AllFit, each_code}
use Rattle.programs.specs.Coding.{FitsWord, word_code}
use Rattle.programs.proofs.memories.encode_words.Given as goal

-- what was appended goes on with the bytes of the words from this one on, and all fit if these do
abbrev pub invariant-loop-word : goal.invariant-loop-word
invariant-loop-word l = record {
  code : (rest : List ℕ) → l.out.items ++ each_code word_code (drop l.word-index l.words) rest
      ≡ l.initial.out.items ++ each_code word_code l.words rest;
  fits : AllFit FitsWord (drop l.word-index l.words) → AllFit FitsWord l.words;
}

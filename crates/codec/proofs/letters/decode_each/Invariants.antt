use Rattle.std.proofs.Common.{◌≡◌, ◌++◌, List, ℕ, length, drop, take}
use Rattle.codec.specs.Codes.{AllFit, each_code}
use Rattle.codec.specs.Layers.{FitsLetter, letter_code}
use Rattle.codec.proofs.letters.decode_each.Given as goal

-- of letters that fit, so many were read, and the others are left
abbrev pub invariant-loop : goal.invariant-loop
invariant-loop l = (vs : List _) (rest : List ℕ) → length vs ≡ l.count → AllFit FitsLetter vs
    → l.initial.input ≡ each_code letter_code vs rest
    → (l.letters.items ≡ l.initial.letters.items ++ take l.counter vs)
    × (l.input ≡ each_code letter_code (drop l.counter vs) rest)
    × AllFit FitsLetter (drop l.counter vs)

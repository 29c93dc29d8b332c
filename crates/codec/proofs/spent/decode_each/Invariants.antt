use Rattle.std.proofs.Common.{◌≡◌, List, ℕ, length, drop, reverse, take}
use Rattle.codec.specs.Codes.{AllFit, each_code}
use Rattle.codec.specs.Layers.{FitsStretch, stretch_code}
use Rattle.spent_letters.specs.Stretches.{letters_in, AreWhole}
use Rattle.codec.proofs.spent.decode_each.Given as goal

-- of stretches that fit, so many were read, and the others are left
abbrev pub invariant-loop : goal.invariant-loop
invariant-loop l = (vs : List _) (rest : List ℕ) → length vs ≡ l.count → AreWhole (reverse vs) → AllFit FitsStretch vs
    → l.initial.input ≡ each_code stretch_code vs rest
    → (l.letters ≡ letters_in (reverse (take l.counter vs)))
    × (l.input ≡ each_code stretch_code (drop l.counter vs) rest)
    × AllFit FitsStretch (drop l.counter vs)

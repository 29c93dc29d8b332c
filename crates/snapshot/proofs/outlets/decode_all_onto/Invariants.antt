use Rattle.std.proofs.Common.{◌≡◌, List, ℕ, length, drop, take}
use Rattle.codec.specs.Codes.{AllFit, each_code}
use Rattle.snapshot.specs.Parts.{FitsLine, line_code, pairs_of}
use Rattle.snapshot.proofs.outlets.decode_all_onto.Given as goal

-- of those that fit, so many were read, and the others are left
abbrev pub invariant-loop : goal.invariant-loop
invariant-loop l = (vs : List _) (rest : List ℕ) → length vs ≡ l.count → AllFit FitsLine vs
    → l.initial.input ≡ each_code line_code vs rest
    → (pairs_of l.outlet ≡ take l.counter vs) × (l.input ≡ each_code line_code (drop l.counter vs) rest)
    × AllFit FitsLine (drop l.counter vs)

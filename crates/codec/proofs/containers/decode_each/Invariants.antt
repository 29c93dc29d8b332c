use Rattle.std.proofs.Common.{◌≡◌, List, ℕ, length, drop, take}
use Rattle.codec.specs.Codes.{AllFit, each_code}
use Rattle.codec.proofs.containers.decode_each.Given as goal

-- of items that fit, so many were read, and the others are left
abbrev pub invariant-loop : goal.invariant-loop
invariant-loop g l = (vs : List _) (rest : List ℕ) → length vs ≡ l.count → AllFit g.T.Coded.fits vs
    → l.initial.input ≡ each_code g.T.Coded.code vs rest
    → (l.items.items ≡ take l.counter vs) × (l.input ≡ each_code g.T.Coded.code (drop l.counter vs) rest)
    × AllFit g.T.Coded.fits (drop l.counter vs)

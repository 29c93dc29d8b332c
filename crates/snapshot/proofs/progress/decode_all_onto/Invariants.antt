use Rattle.std.proofs.Common.{◌≡◌, List, ℕ, length, drop, take}
use Rattle.codec.specs.Codes.{AllFit, each_code}
use Rattle.snapshot.specs.Parts.{FitsSnapshot, snapshot_code}
use Rattle.snapshot.proofs.progress.decode_all_onto.Given as goal

-- of items that fit, so many were read, and the others are left
abbrev pub invariant-loop : goal.invariant-loop
invariant-loop g l = (vs : List _) (rest : List ℕ) → length vs ≡ l.count
    → AllFit (FitsSnapshot g.H.Portable.state_fits) vs
    → l.initial.input ≡ each_code (snapshot_code g.H.Portable.state_code) vs rest
    → (l.snapshots.items ≡ take l.counter vs) × (l.input ≡ each_code (snapshot_code g.H.Portable.state_code)
    (drop l.counter vs) rest)
    × AllFit (FitsSnapshot g.H.Portable.state_fits) (drop l.counter vs)

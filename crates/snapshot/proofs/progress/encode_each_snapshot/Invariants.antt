use Rattle.std.proofs.Common.{◌≡◌, ◌++◌, List, ℕ, drop}
use Rattle.codec.specs.Codes.{AllFit, each_code}
use Rattle.snapshot.specs.Parts.{FitsSnapshot, snapshot_code}
use Rattle.snapshot.proofs.progress.encode_each_snapshot.Given as goal

-- what was appended goes on with the bytes of the items from this one on, and all fit if these do
abbrev pub invariant-loop-snapshot : goal.invariant-loop-snapshot
invariant-loop-snapshot g l = record {
  code : (rest : List ℕ) → l.out.items ++ each_code (snapshot_code g.H.Portable.state_code)
      (drop l.snapshot-index l.snapshots) rest
      ≡ l.initial.out.items ++ each_code (snapshot_code g.H.Portable.state_code) l.snapshots rest;
  fits : AllFit (FitsSnapshot g.H.Portable.state_fits) (drop l.snapshot-index l.snapshots)
      → AllFit (FitsSnapshot g.H.Portable.state_fits) l.snapshots;
}

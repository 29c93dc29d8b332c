use Rattle.std.proofs.Common.{◌≡◌, ◌++◌, List, ℕ, drop}
use Rattle.codec.specs.Codes.{AllFit, each_code}
use Rattle.snapshot.specs.Hosts.{FitsEntry, entry_code}
use Rattle.snapshot.proofs.entries.encode_each_entry.Given as goal

-- what was appended goes on with the bytes of those from this one on, and all fit if these do
abbrev pub invariant-loop-place : goal.invariant-loop-place
invariant-loop-place g l = record {
  code : (rest : List ℕ) → l.out.items
      ++ each_code (entry_code g.H.Portable.state_code) (drop l.place l.tenants.entries) rest
      ≡ l.initial.out.items ++ each_code (entry_code g.H.Portable.state_code) l.tenants.entries rest;
  fits : AllFit (FitsEntry g.H.Portable.state_fits) (drop l.place l.tenants.entries)
      → AllFit (FitsEntry g.H.Portable.state_fits) l.tenants.entries;
}

use Rattle.std.proofs.Common.{◌≡◌, ◌++◌, List, ℕ, drop}
use Rattle.codec.specs.Codes.{AllFit, each_code}
use Rattle.snapshot.specs.Tenants.{FitsMember, member_code}
use Rattle.snapshot.proofs.members.encode_each_member.Given as goal

-- what was appended goes on with the bytes of the items from this one on, and all fit if these do
abbrev pub invariant-loop-member : goal.invariant-loop-member
invariant-loop-member g l = record {
  code : (rest : List ℕ) → l.out.items ++ each_code (member_code g.H.Portable.state_code)
      (drop l.member-index l.members) rest
      ≡ l.initial.out.items ++ each_code (member_code g.H.Portable.state_code) l.members rest;
  fits : AllFit (FitsMember g.H.Portable.state_fits) (drop l.member-index l.members)
      → AllFit (FitsMember g.H.Portable.state_fits) l.members;
}

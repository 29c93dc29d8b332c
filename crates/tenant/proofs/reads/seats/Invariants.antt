use Rattle.std.proofs.Common.{◌≡◌, ◌++◌, drop}
use Rattle.tenant.specs.Reads.{seats_of}
use Rattle.tenant.proofs.reads.seats.Given as goal

abbrev pub invariant-loop-member : goal.invariant-loop-member
invariant-loop-member g l = l.seats.items ++ seats_of (drop l.member-index l.members) ≡ seats_of l.members

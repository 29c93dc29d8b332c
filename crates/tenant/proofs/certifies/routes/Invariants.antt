use Rattle.std.proofs.Common.{◌≡◌, take}
use Rattle.tenant.specs.Reads.{routes_by}
use Rattle.tenant.proofs.certifies.routes.Given as goal

abbrev pub invariant-loop-number : goal.invariant-loop-number
invariant-loop-number l = l.routes.items ≡ routes_by (take l.number l.letters.items)

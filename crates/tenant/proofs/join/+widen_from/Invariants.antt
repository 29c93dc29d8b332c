use Rattle.std.proofs.Common.{◌-◌, length}
use Rattle.tenant.proofs.join.+widen_from.Given as goal

abbrev pub decreases-widen_from : goal.decreases-widen_from
decreases-widen_from g l = length l.members.now.items - l.at

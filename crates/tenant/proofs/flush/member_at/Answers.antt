use Rattle.tenant.proofs.Found.{found}
use Rattle.tenant.proofs.flush.member_at.Goals as goal

pub returns : goal.returns
returns g c = found c.get.result c.args.members.now c.args.at c.get.ensures.lookup.3

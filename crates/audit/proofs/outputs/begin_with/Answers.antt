use Rattle.std.proofs.Common.{rules}
use Rattle.audit.proofs.Beginning.{begins_is}
use Rattle.audit.proofs.outputs.begin_with.Goals as goal

pub returns : goal.returns
returns c = begins_is c.args.outputs.now c.args.list.now _ (search rules)

use Rattle.std.specs.Prelude.{None}
use Rattle.shared_log.specs.Records.{in_blocks}
use Rattle.shared_log.proofs.Tables.{tabled_one}
use Rattle.shared_log.proofs.records.Records.vacant.Goals as goal

pub returns : goal.returns
returns c = tabled_one (in_blocks c.new-2.result) c.args.count None c.new-2.ensures

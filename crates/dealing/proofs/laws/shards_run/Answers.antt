use Rattle.dealing.proofs.Standing.{shards_run}
use Rattle.dealing.proofs.laws.shards_run.Goals as goal

pub returns : goal.returns
returns g c = shards_run g.H.Handler.meaning

use Rattle.shards.proofs.Among.{driven_run}
use Rattle.shards.proofs.laws.driven_run.Goals as goal

pub returns : goal.returns
returns g c = driven_run g.H.Handler.meaning

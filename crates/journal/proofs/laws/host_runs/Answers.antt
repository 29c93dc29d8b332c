use Rattle.journal.proofs.Hosts.{host_runs}
use Rattle.journal.proofs.laws.host_runs.Goals as goal

pub returns : goal.returns
returns g c = host_runs g.H.Handler.meaning

use Rattle.journal.proofs.Hosts.{hosts_go_on}
use Rattle.journal.proofs.laws.hosts_go_on.Goals as goal

pub returns : goal.returns
returns g c = hosts_go_on g.H.Handler.meaning

use Rattle.journal.proofs.Hosts.{hosts_repeat}
use Rattle.journal.proofs.laws.hosts_repeat.Goals as goal

pub returns : goal.returns
returns g c = hosts_repeat g.H.Handler.meaning

use Rattle.journal.proofs.Lines.{repeats}
use Rattle.journal.proofs.laws.repeats.Goals as goal

pub returns : goal.returns
returns g c = repeats g.H.Handler.meaning

use Rattle.journal.proofs.Lines.{goes_on}
use Rattle.journal.proofs.laws.goes_on.Goals as goal

pub returns : goal.returns
returns g c = goes_on g.H.Handler.meaning

use Rattle.theory.proofs.Courses.{stays_open}
use Rattle.tenant.proofs.laws.stays_open.Goals as goal

pub returns : goal.returns
returns g c = stays_open (g.H.Handler.meaning)

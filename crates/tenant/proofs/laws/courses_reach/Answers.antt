use Rattle.theory.proofs.Courses.{courses_reach}
use Rattle.tenant.proofs.laws.courses_reach.Goals as goal

pub returns : goal.returns
returns g c = courses_reach (g.H.Handler.meaning)

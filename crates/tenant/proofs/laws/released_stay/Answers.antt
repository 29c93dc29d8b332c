use Rattle.theory.proofs.Courses.{released_stay}
use Rattle.tenant.proofs.laws.released_stay.Goals as goal

pub returns : goal.returns
returns g c = released_stay (g.H.Handler.meaning)

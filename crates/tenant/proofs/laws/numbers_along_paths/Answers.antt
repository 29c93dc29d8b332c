use Rattle.theory.proofs.States.{numbers_along_paths}
use Rattle.tenant.proofs.laws.numbers_along_paths.Goals as goal

pub returns : goal.returns
returns g c = numbers_along_paths (g.H.Handler.meaning)

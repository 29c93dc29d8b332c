use Rattle.theory.proofs.HeldCanGo.{release_is_whole}
use Rattle.tenant.proofs.laws.release_is_whole.Goals as goal

pub returns : goal.returns
returns g c = release_is_whole (g.H.Handler.meaning)

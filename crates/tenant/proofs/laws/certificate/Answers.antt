use Rattle.theory.proofs.Certificate.{certificate_law}
use Rattle.tenant.proofs.laws.certificate.Goals as goal

pub returns : goal.returns
returns g c = certificate_law (g.H.Handler.meaning)

use Rattle.theory.proofs.WithoutOptimism.{no_notice_appends}
use Rattle.tenant.proofs.laws.no_notice_appends.Goals as goal

pub returns : goal.returns
returns g c = no_notice_appends (g.H.Handler.meaning)

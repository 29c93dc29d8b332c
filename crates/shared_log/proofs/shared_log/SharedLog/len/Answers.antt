use Rattle.std.proofs.Common.{ap, ◌∙◌, length}
use Rattle.shared_log.specs.Logged.{Logged}
use Rattle.shared_log.proofs.shared_log.SharedLog.len.Goals as goal

pub returns : goal.returns
returns g c = c.self.invariant.0 ∙ ap (λ (l : Logged). length l.records) c.self.view_is

use Rattle.std.proofs.Common.{ap}
use Rattle.shared_log.specs.Logged.{Logged}
use Rattle.shared_log.proofs.shared_log.SharedLog.store.Goals as goal

pub returns-clause-records : goal.returns-clause-records
returns-clause-records g c = ap (λ (l : Logged). l.records) c.self.view_is

pub returns-clause-failures : goal.returns-clause-failures
returns-clause-failures g c = ap (λ (l : Logged). l.failures) c.self.view_is

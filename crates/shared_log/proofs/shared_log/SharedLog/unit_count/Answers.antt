use Rattle.std.proofs.Common.{◌∙◌, sym, ap}
use Rattle.shared_log.specs.Index.{listed}
use Rattle.shared_log.specs.Logged.{Logged}
use Rattle.shared_log.proofs.PlacesLaws.{list_is}
use Rattle.shared_log.proofs.shared_log.SharedLog.unit_count.Goals as goal

pub returns-clause-rest : goal.returns-clause-rest
returns-clause-rest g c = λ unit past.
    sym (list_is (listed c.self.inside.index) _ c.args.self.now c.args.tenant.now unit c.self.invariant.1
    (ap (λ (l : Logged). l.records) c.self.view_is))
    ∙ c.unit_count.ensures.rest unit past

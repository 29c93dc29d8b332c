use Rattle.std.proofs.Common.{◌∙◌, ap}
use Rattle.shared_log.specs.Logged.{Logged}
use Rattle.shared_log.proofs.PlacesLaws.{kept_same}
use Rattle.shared_log.proofs.shared_log.SharedLog.fetch.Goals as goal

pub returns-clause-kept : goal.returns-clause-kept
returns-clause-kept g c =
    kept_same c.args.self.now _ (c.fetch.ensures.same ∙ ap (λ (l : Logged). l.records) c.self.view_is)

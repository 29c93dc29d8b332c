use Rattle.std.proofs.Common.{◌∙◌, ◌-◌, ap, List, ℕ, take, length}
use Rattle.shared_log.specs.Index.{listed}
use Rattle.shared_log.proofs.PlacesLaws.{undone}
use Rattle.shared_log.proofs.shared_log.put_in.Goals as goal

pub returns-in-Err-clause-same : goal.returns-in-Err-clause-same
returns-in-Err-clause-same c =
    undone (listed c.args.index.now) (listed c.add.new.index)
    (listed c.cut.new.index) c.copy-tenant.result c.args.logged.unit c.args.place
    c.in_ok-add.ensures.own c.add.ensures.others
    (c.cut.ensures.own ∙ ap (λ (ps : List ℕ).
    take (length ps - 1) (listed c.add.new.index c.copy-tenant.result c.args.logged.unit)) c.of.ensures)
    c.cut.ensures.others

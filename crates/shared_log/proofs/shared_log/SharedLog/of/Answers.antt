use Rattle.std.proofs.Common.{◌∙◌, sym, ap, subst, List, ℕ}
use Rattle.std.specs.Prelude.{All}
use Rattle.shared_log.specs.Logged.{Logged, IsHeld}
use Rattle.shared_log.specs.Index.{listed}
use Rattle.shared_log.proofs.PlacesLaws.{list_is, places_are, all_held}
use Rattle.shared_log.proofs.shared_log.SharedLog.of.Goals as goal

pub returns-clause-places : goal.returns-clause-places
returns-clause-places g c =
    c.of.ensures
    ∙ list_is (listed c.self.inside.index) _ c.args.self.now c.args.tenant.now c.args.unit c.self.invariant.1
    (ap (λ (l : Logged). l.records) c.self.view_is)

pub returns-clause-held : goal.returns-clause-held
returns-clause-held g c =
    subst (λ (ps : List ℕ). All (IsHeld c.args.self.now.records) ps)
    (sym (returns-clause-places g c ∙ places_are c.args.self.now c.args.tenant.now c.args.unit))
    (all_held c.args.tenant.now c.args.unit c.args.self.now.records)

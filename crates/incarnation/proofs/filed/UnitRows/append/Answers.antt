use Rattle.std.proofs.Common.{◌≡◌, sym, ◌∙◌, ap, subst, ℕ, ◌≤◌, List, [], ◌∷◌, ◌++◌}
use Rattle.std.specs.Prelude.{Some, slice_get}
use Rattle.model.specs.declared.names.Row.{Row}
use Rattle.incarnation.specs.Filed.{Filed}
use Rattle.incarnation.proofs.FilesLaws.{filed_push}
use Rattle.incarnation.proofs.filed.UnitRows.append.Goals as goal

pub invariant_of-self-2 : goal.invariant_of-self-2
invariant_of-self-2 c =
    filed_push c.self.inside.rows.items c.push_reserved.new.self.items c.self.inside.places.items
    c.push_reserved-2.new.self.items c.self.inside.starts c.push.new.self c.args.row c.args.place
    (c.push_reserved.ensures.items ∙ ap (λ (rs : List Row). rs ++ c.args.row ∷ []) c.reserve.ensures.items)
    (c.push_reserved-2.ensures.items ∙ ap (λ (ps : List ℕ). ps ++ c.args.place ∷ []) c.reserve-2.ensures.items)
    c.in_ok-push.ensures.ok
    c.self.invariant
    (subst
    (λ (f : Filed). (i p : ℕ) → slice_get f.places i ≡ Some p → p ≤ c.args.place) (sym c.self.view_is) c.requires)

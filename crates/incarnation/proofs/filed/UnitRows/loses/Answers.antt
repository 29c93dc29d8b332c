use Rattle.std.proofs.Common.{◌∙◌, ap, subst, List, ℕ}
use Rattle.std.specs.Prelude.{IsTrue, ◌↔◌, slice_get}
use Rattle.incarnation.specs.Filed.{Filed, LosesAt, place_below}
use Rattle.incarnation.proofs.FilesLaws.{first_loses}
use Rattle.incarnation.proofs.filed.UnitRows.loses.Goals as goal

pub returns : goal.returns
returns c =
    let f : Filed = record { rows = c.self.inside.rows.items; places = c.self.inside.places.items } in
    subst (λ (g : Filed). IsTrue c.is_before.result ↔ LosesAt g c.args.known c.args.mark) c.self.view_is
    (first_loses f c.self.inside.starts c.args.known c.args.mark c.first_low-first.result
    c.from.result c.is_before.result c.self.invariant c.from.ensures c.first_low-first.ensures
    (c.is_before.ensures ∙ ap
    (λ (ps : List ℕ). place_below c.args.known (slice_get ps c.first_low-first.result)) c.as_slice.ensures.value))

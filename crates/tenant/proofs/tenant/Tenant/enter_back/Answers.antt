use Rattle.std.proofs.Common.{sym, ◌∙◌, ap}
use Rattle.std.specs.Prelude.{slice_get}
use Rattle.tenant.specs.Kept.{TenantState}
use Rattle.tenant.proofs.tenant.Tenant.enter_back.Goals as goal

pub return_member-requires-clause-target : goal.return_member-requires-clause-target
return_member-requires-clause-target g c κs within = λ m found.
    c.requires.target m
    (ap (λ (t : TenantState g.row.H-State.Denot). slice_get t.members c.args.unit) (sym c.self.view_is)
    ∙ ap (slice_get c.self.inside.members.items) (sym (c.from-2.ensures ∙ c.number.ensures)) ∙ found)

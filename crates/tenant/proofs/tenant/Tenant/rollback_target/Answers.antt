use Rattle.std.proofs.Common.{◌≡◌, ◌∙◌, sym, ap, subst, ◌+◌, ◌<◌, List}
use Rattle.std.proofs.lemmas.Option.{same_Some}
use Rattle.model.specs.declared.names.Row.{Row}
use Rattle.rollback.specs.Units.{IsTarget, OrphansAreTail}
use Rattle.tenant.specs.Kept.{TenantState, Member, kept_length}
use Rattle.tenant.proofs.tenant.Tenant.rollback_target.Goals as goal

pub returns-clause-target : goal.returns-clause-target
returns-clause-target g c = λ m found.
    let q : Member g.row.H-State.Denot = c.member_there-member.result.now in
    subst (λ (z : Member g.row.H-State.Denot). IsTarget z.unit_state c.rollback_target.result)
    (same_Some q m (sym c.member_there-member.ensures ∙ found)) c.rollback_target.ensures.target

pub returns-clause-kept : goal.returns-clause-kept
returns-clause-kept g c = λ m found.
    let q : Member g.row.H-State.Denot = c.member_there-member.result.now in
    let rows : c.self.inside.table ≡ c.args.self.now.table =
    ap (λ (t : TenantState g.row.H-State.Denot). t.table) c.self.view_is in
    subst (λ (table : List Row). OrphansAreTail table m.unit_state.intervals
    → m.unit_state.base < kept_length table m.unit_state → c.rollback_target.result + 1 ≡ kept_length
    table m.unit_state) rows (subst (λ (z : Member g.row.H-State.Denot). OrphansAreTail c.self.inside.table
    z.unit_state.intervals → z.unit_state.base < kept_length c.self.inside.table z.unit_state
    → c.rollback_target.result + 1 ≡ kept_length c.self.inside.table z.unit_state)
    (same_Some q m (sym c.member_there-member.ensures ∙ found)) c.rollback_target.ensures.kept)

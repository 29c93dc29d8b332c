use Rattle.std.proofs.Common.{refl, sym, subst, ◌∙◌, ap, [], ◌∷◌, ◌++◌}
use Rattle.tenant.specs.Kept.{KeepsNoText, KeepsTexts, TenantState}
use Rattle.tenant.proofs.Joining.{entered}
use Rattle.tenant.proofs.tenant.Tenant.enter_unit.Goals as goal

pub returns-clause-ok : goal.returns-clause-ok
returns-clause-ok g c = λ lines.
    entered g.H.Handler.meaning c.args.self.now _ c.self.inside.outlet c.args.kind c.member_count-count.result
    c.new.result _ c.rows.result c.in_ok-member.member c.widen_from.new.members.items c.push_reserved.new.self.items
    c.push_reserved-2.new.self.items _ _ c.self.view_is refl refl lines c.member_count-count.ensures
    c.new.ensures refl c.rows.ensures c.in_ok-member.ensures c.in_ok-widen_from.ensures.members
    (c.push_reserved.ensures.items ∙ ap (λ xs. xs ++ 1 ∷ []) c.reserve.ensures.items) (c.push_reserved-2.ensures.items
    ∙ ap (λ xs. xs ++ 1 ∷ []) c.reserve-2.ensures.items)
    c.in_ok-widen_from.ensures.gone c.in_ok-widen_from.ensures.lines

pub returns-in_err-widen_from-clause-texts : goal.returns-in_err-widen_from-clause-texts
returns-in_err-widen_from-clause-texts g c = λ kept.
    c.widen_from.ensures.texts (subst (λ (t : TenantState g.row.H-State.Denot). KeepsTexts t) (sym c.self.view_is) kept)

pub returns-clause-texts : goal.returns-clause-texts
returns-clause-texts g c = λ kept.
    c.widen_from.ensures.texts (subst (λ (t : TenantState g.row.H-State.Denot). KeepsTexts t) (sym c.self.view_is) kept)

pub returns-in_err-widen_from-clause-none : goal.returns-in_err-widen_from-clause-none
returns-in_err-widen_from-clause-none g c = λ none.
    c.widen_from.ensures.none (subst (λ (t : TenantState g.row.H-State.Denot). KeepsNoText t) (sym c.self.view_is) none)

pub returns-clause-none : goal.returns-clause-none
returns-clause-none g c = λ none.
    c.widen_from.ensures.none (subst (λ (t : TenantState g.row.H-State.Denot). KeepsNoText t) (sym c.self.view_is) none)

pub returns-in_err-reserve-clause-none : goal.returns-in_err-reserve-clause-none
returns-in_err-reserve-clause-none g c = λ none.
    subst (λ (t : TenantState g.row.H-State.Denot). KeepsNoText t) (sym c.self.view_is) none

pub returns-in_err-reserve-2-clause-none : goal.returns-in_err-reserve-2-clause-none
returns-in_err-reserve-2-clause-none g c = λ none.
    subst (λ (t : TenantState g.row.H-State.Denot). KeepsNoText t) (sym c.self.view_is) none

pub returns-in_err-member-clause-none : goal.returns-in_err-member-clause-none
returns-in_err-member-clause-none g c = λ none.
    subst (λ (t : TenantState g.row.H-State.Denot). KeepsNoText t) (sym c.self.view_is) none

use Rattle.std.proofs.Common.{◌≡◌, ◌∙◌, ap, sym, arith, length, refl}
use Rattle.std.specs.Prelude.{Some, slice_get}
use Rattle.std.proofs.lemmas.Option.{slice_get_read}
use Rattle.model.proofs.Places.{get_below}
use Rattle.tenant.specs.Kept.{TenantState}
use Rattle.tenant.proofs.Live.{moved_own}
use Rattle.tenant.proofs.Moving.{lets_beside, moved_stands}
use Rattle.tenant.proofs.Standing.{opened}
use Rattle.tenant.proofs.Emptying.{none_keeps, one_keeps}
use Rattle.tenant.proofs.tenant.Tenant.forget_one.Goals.{else-at-len-via-then-at-len+else-at-len-2}
use Rattle.tenant.proofs.tenant.Tenant.forget_one.Goals.{else-at-len-via-else-at-len}
use Rattle.tenant.proofs.tenant.Tenant.forget_one.Goals as goal

pub returns-then-at-len-2-clause-stands : goal.returns-then-at-len-2-clause-stands
returns-then-at-len-2-clause-stands g c = λ w s.
    let t : TenantState g.row.H-State.Denot = c.args.self.now in
    let at = c.args.at in
    let fronts = c.self.inside.frontiers.items in
    let front : slice_get t.frontiers at ≡ Some c.index-frontier.result.now =
    ap (λ (t : TenantState g.row.H-State.Denot). slice_get t.frontiers at) (sym c.self.view_is)
    ∙ slice_get_read fronts (length fronts) at c.index-frontier.result.now refl (let a = c.if-at-len-2.true in
    let b = c.len-then-at-len.ensures in omega (arith, a, b)) c.index-frontier.ensures in
    let wide : length c.self.inside.members.items ≡ length t.members =
    ap (λ (t : TenantState g.row.H-State.Denot). length t.members) c.self.view_is in
    let m = get_below t.members at (let a = c.if-at-len.true in let b = c.len.ensures in omega (arith, a, b, wide)) in
    moved_stands g.H.Handler.meaning
    c.args.tenant.now t w c.args.log.now c.forget_unit.new.log (opened s) at m.0 m.1 c.index-frontier.result.now
    front c.forget_unit.new.self (c.forget_unit.ensures.kept m.0 m.1) (c.forget_unit.ensures.log m.0 m.1)

pub returns-then-at-len-2-clause-beside : goal.returns-then-at-len-2-clause-beside
returns-then-at-len-2-clause-beside g c =
    let t : TenantState g.row.H-State.Denot = c.args.self.now in
    let wide : length c.self.inside.members.items ≡ length t.members =
    ap (λ (t : TenantState g.row.H-State.Denot). length t.members) c.self.view_is in
    let m = get_below t.members c.args.at (let a = c.if-at-len.true in
    let b = c.len.ensures in omega (arith, a, b, wide)) in
    lets_beside c.args.tenant.now m.0.unit _ c.args.log.now c.forget_unit.new.log (c.forget_unit.ensures.log m.0 m.1)

pub returns-then-at-len-2-clause-bases : goal.returns-then-at-len-2-clause-bases
returns-then-at-len-2-clause-bases g c = λ w shelves s kept.
    let t : TenantState g.row.H-State.Denot = c.args.self.now in
    let at = c.args.at in
    let fronts = c.self.inside.frontiers.items in
    let front : slice_get t.frontiers at ≡ Some c.index-frontier.result.now =
    ap (λ (t : TenantState g.row.H-State.Denot). slice_get t.frontiers at) (sym c.self.view_is)
    ∙ slice_get_read fronts (length fronts) at c.index-frontier.result.now refl (let a = c.if-at-len-2.true in
    let b = c.len-then-at-len.ensures in omega (arith, a, b)) c.index-frontier.ensures in
    let wide : length c.self.inside.members.items ≡ length t.members =
    ap (λ (t : TenantState g.row.H-State.Denot). length t.members) c.self.view_is in
    let m = get_below t.members at (let a = c.if-at-len.true in let b = c.len.ensures in omega (arith, a, b, wide)) in
    one_keeps g.H.Handler.meaning c.args.tenant.now t w c.args.log.now.records s at shelves
    kept m.0 c.index-frontier.result.now m.1 front c.forget_unit.new.self (c.forget_unit.ensures.kept m.0 m.1)

pub returns-else-at-len-clause-bases : goal.returns-else-at-len-clause-bases
returns-else-at-len-clause-bases g c = λ w shelves s kept.
    let t : TenantState g.row.H-State.Denot = c.args.self.now in
    let wide : length c.self.inside.members.items ≡ length t.members =
    ap (λ (t : TenantState g.row.H-State.Denot). length t.members) c.self.view_is in
    let long : length c.self.inside.frontiers.items ≡ length t.frontiers =
    ap (λ (t : TenantState g.row.H-State.Denot). length t.frontiers) c.self.view_is in
    none_keeps g.H.Handler.meaning c.args.tenant.now
    t w c.args.log.now.records s c.args.at shelves kept (λ within front. elim c.else-at-len.branch [
      | else-at-len-via-then-at-len+else-at-len-2 h ↦ let a = h.if-at-len-2.false in
          let b = h.len-then-at-len.ensures in omega (arith, a, b, front, long)
      | else-at-len-via-else-at-len h ↦ let a = h.if-at-len.false in
          let b = c.len.ensures in omega (arith, a, b, within, wide)
    ])

pub returns-then-at-len-2-clause-just : goal.returns-then-at-len-2-clause-just
returns-then-at-len-2-clause-just g c = λ w s.
    let t : TenantState g.row.H-State.Denot = c.args.self.now in
    let wide : length c.self.inside.members.items ≡ length t.members =
    ap (λ (t : TenantState g.row.H-State.Denot). length t.members) c.self.view_is in
    let m = get_below t.members c.args.at (let a = c.if-at-len.true in
    let b = c.len.ensures in omega (arith, a, b, wide)) in
    moved_own g.H.Handler.meaning c.args.tenant.now t w c.args.log.now c.forget_unit.new.log s c.args.at m.0 m.1
    c.index-frontier.result.now c.forget_unit.new.self (c.forget_unit.ensures.kept m.0 m.1)
    (c.forget_unit.ensures.log m.0 m.1)

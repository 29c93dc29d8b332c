use Rattle.std.proofs.Common.{sym, ◌∙◌, ◌+◌, length}
use Rattle.std.proofs.lemmas.Option.{slice_get_within}
use Rattle.rollback.specs.Units.{places}
use Rattle.tenant.specs.Kept.{Member}
use Rattle.tenant.proofs.Back.{above, notice_learns, notice_not_up, notice_returns, notice_worn}
use Rattle.tenant.proofs.Live.{like_own, returned_own}
use Rattle.tenant.proofs.Others.{either_beside, returned_beside, returned_live}
use Rattle.tenant.proofs.Results.{if_ok}
use Rattle.tenant.proofs.Standing.{opened}
use Rattle.std.proofs.Common.{ap, refl, inr}
use Rattle.model.specs.declared.names.Start.{Start}
use Rattle.tenant.specs.Kept.{TenantState}
use Rattle.tenant.proofs.PastKept.{no_letters, one_same, returned_shelves}
use Rattle.tenant.proofs.tenant.Tenant.notice.Goals as goal
use Rattle.theory.proofs.ListLaws.{le_true}

pub returns-in-Err-clause-did : goal.returns-in-Err-clause-did
returns-in-Err-clause-did g c = λ w s.
    rw (c.refused.ensures.reply, c.refused.ensures.plain) (notice_not_up g.H.Handler.meaning c.args.tenant.now
    c.args.self.now w c.args.log.now (opened s) c.args.unit c.in-Err.refusal c.in-Err.ensures.refused)

pub rollback_target-target-requires-after_bounds : goal.rollback_target-target-requires-after_bounds
rollback_target-target-requires-after_bounds g c κs within =
    slice_get_within c.args.self.now.members c.args.unit _ c.in-Ok.ensures.found

pub is_last-requires-after_bounds : goal.is_last-requires-after_bounds
is_last-requires-after_bounds g c κs within =
    slice_get_within c.args.self.now.members c.args.unit _ c.in-Ok.ensures.found

pub learn_rows-requires-after_bounds : goal.learn_rows-requires-after_bounds
learn_rows-requires-after_bounds g c κs within =
    slice_get_within c.args.self.now.members c.args.unit _ c.in-Ok.ensures.found

pub returns-then-is_last-clause-did : goal.returns-then-is_last-clause-did
returns-then-is_last-clause-did g c = λ w s.
    let m : Member g.row.H-State.Denot = c.in-Ok.field-0.now in
    let found = c.in-Ok.ensures.found in
    let target = c.rollback_target-target.result in
    rw (c.learn_rows.ensures.learned m found, c.quiet.ensures.reply, c.quiet.ensures.plain)
    (notice_learns g.H.Handler.meaning c.args.tenant.now c.args.self.now w c.args.log.now (opened s) c.args.unit
    m found target (c.rollback_target-target.ensures.target m found)
    (c.rollback_target-target.ensures.kept m found) c.in-Ok.ensures.up
    (le_true (places m.unit_state) (target + 1) (sym (c.is_last.ensures m found) ∙ c.if-is_last.true)))

pub returns-then-incarnations_exhausted-clause-did : goal.returns-then-incarnations_exhausted-clause-did
returns-then-incarnations_exhausted-clause-did g c = λ w s.
    let m : Member g.row.H-State.Denot = c.in-Ok.field-0.now in
    let found = c.in-Ok.ensures.found in
    let target = c.rollback_target-target.result in
    rw (c.refused-then-incarnations_exhausted.ensures.reply, c.refused-then-incarnations_exhausted.ensures.plain)
    (notice_worn g.H.Handler.meaning c.args.tenant.now c.args.self.now w c.args.log.now (opened s) c.args.unit
    m found target (c.rollback_target-target.ensures.target m found)
    (c.rollback_target-target.ensures.kept m found) c.in-Ok.ensures.up
    (above (places m.unit_state) (target + 1) (sym (c.is_last.ensures m found) ∙ c.if-is_last.false))
    (sym c.incarnations_exhausted.ensures ∙ c.if-incarnations_exhausted.true))

pub return_to-requires-clause-within : goal.return_to-requires-clause-within
return_to-requires-clause-within g c κs within =
    slice_get_within c.args.self.now.members c.args.unit _ c.in-Ok.ensures.found

pub returns-clause-did : goal.returns-clause-did
returns-clause-did g c =
    let m : Member g.row.H-State.Denot = c.in-Ok.field-0.now in
    let found = c.in-Ok.ensures.found in
    let target = c.rollback_target-target.result in
    if_ok _ _ c.return_to.result (λ a returns w s.
    notice_returns g.H.Handler.meaning c.args.tenant.now c.args.self.now w c.args.log.now (opened s) c.args.unit
    m found target (c.rollback_target-target.ensures.target m found)
    (c.rollback_target-target.ensures.kept m found) c.in-Ok.ensures.up
    (above (places m.unit_state) (target + 1) (sym (c.is_last.ensures m found) ∙ c.if-is_last.false))
    (sym c.incarnations_exhausted.ensures ∙ c.if-incarnations_exhausted.false)
    c.start_behind.result c.start_behind.ensures c.return_to.new.self c.return_to.new.log a (returns m found))
    c.return_to.ensures.returns

pub returns-clause-others : goal.returns-clause-others
returns-clause-others g c = λ k w other differs s.
    returned_beside g.H.Handler.meaning c.args.tenant.now other c.args.unit k w c.args.log.now c.return_to.new.log
    (either_beside c.return_to.result c.args.tenant.now c.args.unit
    c.args.log.now c.return_to.new.log c.return_to.ensures.beside c.return_to.ensures.err_log) differs s

pub returns-then-is_last-clause-shelves : goal.returns-then-is_last-clause-shelves
returns-then-is_last-clause-shelves g c =
    let m : Member g.row.H-State.Denot = c.in-Ok.field-0.now in
    let found = c.in-Ok.ensures.found in
    let t : TenantState g.row.H-State.Denot = c.args.self.now in
    let v : TenantState g.row.H-State.Denot = c.learn_rows.new.self in
    let new = c.learn_rows.ensures.learned m found in
    rw (c.quiet.ensures.reply) (one_same t c.args.unit m found (record m { known = length t.table }) v
    (ap (λ (z : TenantState g.row.H-State.Denot). z.members) new) refl
    (no_letters t v (ap (λ (z : TenantState g.row.H-State.Denot). z.letters) new)))

pub returns-clause-shelves : goal.returns-clause-shelves
returns-clause-shelves g c =
    let m : Member g.row.H-State.Denot = c.in-Ok.field-0.now in
    let found = c.in-Ok.ensures.found in
    let start = c.start_behind.result in
    if_ok _ _ c.return_to.result (λ a returns. returned_shelves g.H.Handler.meaning c.args.tenant.now c.args.self.now
    c.return_to.new.self c.args.unit m found c.rollback_target-target.result _ a c.args.log.now c.return_to.new.log
    start
    (ap (λ (z : Start). z.index) c.start_behind.ensures) (inr refl) (returns m found)) c.return_to.ensures.returns

pub returns-then-is_last-clause-just : goal.returns-then-is_last-clause-just
returns-then-is_last-clause-just g c = λ w s.
    let m : Member g.row.H-State.Denot = c.in-Ok.field-0.now in
    let found = c.in-Ok.ensures.found in
    let t : TenantState g.row.H-State.Denot = c.args.self.now in
    like_own c.args.tenant.now t c.learn_rows.new.self c.args.log.now.records c.args.unit m
    (record m { known = length t.table }) found refl
    (ap (λ (z : TenantState g.row.H-State.Denot). z.members) (c.learn_rows.ensures.learned m found))

pub returns-clause-just : goal.returns-clause-just
returns-clause-just g c =
    let m : Member g.row.H-State.Denot = c.in-Ok.field-0.now in
    let found = c.in-Ok.ensures.found in
    if_ok _ _ c.return_to.result (λ a returns w s.
    returned_own g.H.Handler.meaning c.args.tenant.now c.args.self.now w c.args.log.now s c.args.unit m found
    c.rollback_target-target.result (c.rollback_target-target.ensures.target m found)
    (c.rollback_target-target.ensures.kept m found)
    c.return_to.new.self c.return_to.new.log a _ (returns m found)) c.return_to.ensures.returns

pub returns-clause-others_live : goal.returns-clause-others_live
returns-clause-others_live g c =
    returned_live c.args.tenant.now c.args.unit c.args.log.now c.return_to.new.log
    (either_beside c.return_to.result c.args.tenant.now c.args.unit
    c.args.log.now c.return_to.new.log c.return_to.ensures.beside c.return_to.ensures.err_log)

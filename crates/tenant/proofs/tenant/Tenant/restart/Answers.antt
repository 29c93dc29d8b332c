use Rattle.std.proofs.Common.{sym, ◌∙◌, ap}
use Rattle.model.proofs.Places.{get_below}
use Rattle.tenant.specs.Kept.{restart_refusal}
use Rattle.tenant.proofs.Back.{restart_refused_by, restart_returns}
use Rattle.tenant.proofs.Live.{returned_own}
use Rattle.tenant.proofs.Others.{either_beside, returned_beside, returned_live}
use Rattle.tenant.proofs.Results.{if_ok}
use Rattle.tenant.proofs.Standing.{opened}
use Rattle.std.proofs.Common.{refl, inl}
use Rattle.model.specs.declared.names.Start.{Start}
use Rattle.tenant.proofs.PastKept.{returned_shelves}
use Rattle.tenant.proofs.tenant.Tenant.restart.Goals as goal

pub returns-in-Some-clause-did : goal.returns-in-Some-clause-did
returns-in-Some-clause-did g c = λ w s.
    rw (c.refused.ensures.reply, c.refused.ensures.plain)
    (restart_refused_by g.H.Handler.meaning c.args.tenant.now c.args.self.now w c.args.log.now
    (opened s) c.args.unit c.in-Some.refusal (sym c.restart_refusal.ensures.refusal ∙ c.in-Some.is))

pub returns-clause-did : goal.returns-clause-did
returns-clause-did g c =
    let t = c.args.self.now in
    let u = c.args.unit in
    let m = get_below t.members u c.in-None.ensures.there in
    let target = c.rollback_target-target.result in
    if_ok _ _ c.return_to.result
    (λ a returns w s. restart_returns g.H.Handler.meaning c.args.tenant.now t w c.args.log.now (opened s)
    u m.0 m.1 target (c.rollback_target-target.ensures.target m.0 m.1) (c.rollback_target-target.ensures.kept m.0 m.1)
    (ap (restart_refusal t.table u) (sym m.1) ∙ sym c.restart_refusal.ensures.refusal ∙ c.in-None.is)
    c.start_behind-row.result c.start_behind-row.ensures c.return_to.new.self c.return_to.new.log a (returns m.0 m.1))
    c.return_to.ensures.returns

pub returns-clause-others : goal.returns-clause-others
returns-clause-others g c = λ k w other differs s.
    returned_beside g.H.Handler.meaning c.args.tenant.now other c.args.unit k w c.args.log.now c.return_to.new.log
    (either_beside c.return_to.result c.args.tenant.now c.args.unit
    c.args.log.now c.return_to.new.log c.return_to.ensures.beside c.return_to.ensures.err_log) differs s

pub returns-clause-shelves : goal.returns-clause-shelves
returns-clause-shelves g c =
    let t = c.args.self.now in
    let u = c.args.unit in
    let m = get_below t.members u c.in-None.ensures.there in
    let start = c.start_behind-row.result in
    if_ok _ _ c.return_to.result (λ a returns. returned_shelves g.H.Handler.meaning c.args.tenant.now
    t c.return_to.new.self u m.0 m.1 c.rollback_target-target.result _ a c.args.log.now c.return_to.new.log start
    (ap (λ (z : Start). z.index) c.start_behind-row.ensures) (inl refl) (returns m.0 m.1))
    c.return_to.ensures.returns

pub returns-clause-just : goal.returns-clause-just
returns-clause-just g c =
    let t = c.args.self.now in
    let u = c.args.unit in
    let m = get_below t.members u c.in-None.ensures.there in
    let target = c.rollback_target-target.result in
    if_ok _ _ c.return_to.result (λ a returns w s.
    returned_own g.H.Handler.meaning c.args.tenant.now t w c.args.log.now s u m.0 m.1 target
    (c.rollback_target-target.ensures.target m.0 m.1) (c.rollback_target-target.ensures.kept m.0 m.1)
    c.return_to.new.self c.return_to.new.log a _ (returns m.0 m.1)) c.return_to.ensures.returns

pub returns-clause-others_live : goal.returns-clause-others_live
returns-clause-others_live g c =
    returned_live c.args.tenant.now c.args.unit c.args.log.now c.return_to.new.log
    (either_beside c.return_to.result c.args.tenant.now c.args.unit
    c.args.log.now c.return_to.new.log c.return_to.ensures.beside c.return_to.ensures.err_log)

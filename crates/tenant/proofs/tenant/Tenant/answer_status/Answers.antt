use Rattle.std.proofs.Common.{◌∙◌, ap, ◌-◌}
use Rattle.tenant.proofs.Telling.{status_done, status_refused}
use Rattle.tenant.proofs.tenant.Tenant.answer_status.Goals as goal

pub returns-in-None-clause-done : goal.returns-in-None-clause-done
returns-in-None-clause-done g c = λ name live w log s. rw c.refused.ensures.reply
    (status_refused g.H.Handler.meaning name live c.args.self.now w log s c.args.unit c.in-None.ensures)

pub returns-clause-done : goal.returns-clause-done
returns-clause-done g c = λ name live w log s. rw (c.quiet.ensures.reply, c.reply.ensures)
    (status_done g.H.Handler.meaning
    name live c.args.self.now w log s c.args.unit c.in-Some.member.now c.in-Some.ensures _ _ _ _ _ _ _ _ _
    c.last_mark.ensures c.held_count.ensures c.known.ensures c.outside.ensures c.released_count.ensures c.rows.ensures
    (c.saturating_sub.ensures ∙ ap (λ n. n - 1) c.stable_count.ensures) c.is_up.ensures c.volatile_count.ensures)

use Rattle.tenant.proofs.Opening.{opened_so}
use Rattle.tenant.proofs.PastKept.{opened_past}
use Rattle.tenant.proofs.tenant.Tenant.open.Goals as goal

pub returns-clause-opened : goal.returns-clause-opened
returns-clause-opened g c =
    let a = c.args in
    opened_so g.H.Handler.meaning a.kinds.now a.quota a.optimism c.in_ok-reply.reply
    c.in_ok-answer.answer.reply c.in_ok-reply.tenant c.in_ok-answer.ensures.0 c.in_ok-reply.ensures.opens

pub returns-clause-past : goal.returns-clause-past
returns-clause-past g c = opened_past c.in_ok-reply.tenant
    c.in_ok-reply.reply c.in_ok-answer.answer.reply c.in_ok-answer.ensures.0 c.in_ok-reply.ensures.past

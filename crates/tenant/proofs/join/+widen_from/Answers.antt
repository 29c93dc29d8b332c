use Rattle.std.proofs.Common.{arith}
use Rattle.tenant.proofs.Joining.{fitted_one}
use Rattle.tenant.proofs.join.+widen_from.Goals as goal

pub returns-clause-members : goal.returns-clause-members
returns-clause-members g t c =
    let more = c.if-at-len.false in
    let len = c.len.ensures in
    fitted_one c.args.width c.args.members.now.items c.widen_from.new.members.items
    c.fit_at.new.members.items c.args.at c.args.member c.in_ok-sessions.sessions (omega (arith, more, len))
    c.in_ok-sessions.ensures c.in_ok-widen_from.ensures.members c.fit_at.ensures

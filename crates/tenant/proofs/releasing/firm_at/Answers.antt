use Rattle.std.proofs.Common.{arith}
use Rattle.tenant.proofs.Leaving.{firm_end, firm_next}
use Rattle.tenant.proofs.releasing.firm_at.Goals as goal

pub returns-then-from-frontier : goal.returns-then-from-frontier
returns-then-from-frontier c =
    let within = c.if-from-frontier.true in
    let index = c.from.ensures in
    firm_next c.args.frontier c.args.hold.now.outputs
    c.args.place c.in_ok-held.held.now c.in_ok-held.ensures (omega (arith, within, index))

pub returns-else-from-frontier : goal.returns-else-from-frontier
returns-else-from-frontier c =
    let past = c.if-from-frontier.false in
    let index = c.from.ensures in
    firm_end c.args.frontier c.args.hold.now.outputs
    c.args.place c.in_ok-held.held.now c.in_ok-held.ensures (omega (arith, past, index))

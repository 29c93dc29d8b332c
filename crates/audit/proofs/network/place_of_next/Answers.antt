use Rattle.std.proofs.Common.{sym, ◌∙◌}
use Rattle.audit.proofs.Queues.{first_here}
use Rattle.audit.proofs.network.place_of_next.Goals as goal

pub returns-then-is_between : goal.returns-then-is_between
returns-then-is_between c =
    first_here c.args.source c.args.target c.args.packets.now c.loop-i.i _ c.loop-i-test.true c.index-packets-i.is
    (sym c.if-is_between.true ∙ c.is_between.ensures) c.loop-i.invariant.0 c.loop-i.invariant.1

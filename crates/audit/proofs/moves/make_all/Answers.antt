use Rattle.audit.proofs.Making.{move_made}
use Rattle.audit.proofs.moves.make_all.Goals as goal

pub loop-next-preserved : goal.loop-next-preserved
loop-next-preserved g c =
    move_made g.H.Handler.meaning c.loop-next.net c.in_ok-net.net _ c.args.moves.now c.loop-next.next-index
    c.next-item.result c.loop-next.invariant c.loop-next-test.true c.next-item.is c.in_ok-net.ensures

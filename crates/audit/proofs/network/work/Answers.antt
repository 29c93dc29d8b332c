use Rattle.std.proofs.Common.{◌≡◌, refl, ap, length, rules}
use Rattle.audit.proofs.Making.{worked}
use Rattle.audit.proofs.network.work.Goals as goal

pub returns : goal.returns
returns g c = λ a found. worked g.H.Handler.meaning c.args.net c.args.unit c.args.receipt.0 c.args.receipt.1 a
    c.net.inside.workers.items c.net.inside.workers.items _ c.net.inside.packets.items _ c.len-units.result
    c.from-at.result c.number.result c.in_ok-turn.turn c.in_ok-sends.sends.items c.as_slice.result.now
    (ap (λ n. n.workers) c.net.view_is) (ap (λ n. n.packets) c.net.view_is) c.requires.order found
    (let e : c.len-units.result ≡ length c.net.inside.workers.items = search rules in
    e) c.number.ensures c.from-at.ensures refl c.in_ok-turn.ensures c.in_ok-sends.ensures.worker
    c.in_ok-sends.ensures.sends c.as_slice.ensures.value c.in_ok-send_all.ensures

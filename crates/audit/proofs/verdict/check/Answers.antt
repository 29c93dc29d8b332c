use Rattle.std.proofs.Common.{◌∙◌, ap, sym}
use Rattle.audit.proofs.Making.{workers_in_order, run_kept}
use Rattle.audit.proofs.verdict.check.Goals as goal

pub make_all-requires-after_bounds : goal.make_all-requires-after_bounds
make_all-requires-after_bounds g c κs within =
    workers_in_order g.H.Handler.meaning c.args.seats.now c.in-Ok.workers.items c.requires.seats c.in-Ok.ensures

pub first_differing-requires-clause-order : goal.first_differing-requires-clause-order
first_differing-requires-clause-order g c = rw (c.as_slice.ensures.value, ap (λ n. n.workers) c.net.view_is)
    (run_kept g.H.Handler.meaning c.args.seats.now c.args.moves.now c.in-Ok.workers.items _ c.in_ok-net.net
    c.requires.seats c.in-Ok.ensures c.in_ok-net.ensures).0

pub first_differing-requires-clause-lists : goal.first_differing-requires-clause-lists
first_differing-requires-clause-lists g c = c.requires.lists
    ∙ sym (rw (c.as_slice.ensures.value, ap (λ n. n.workers) c.net.view_is)
    (run_kept g.H.Handler.meaning c.args.seats.now c.args.moves.now c.in-Ok.workers.items _ c.in_ok-net.net
    c.requires.seats c.in-Ok.ensures c.in_ok-net.ensures).1)

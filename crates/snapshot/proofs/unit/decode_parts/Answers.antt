use Rattle.std.proofs.Common.{◌∙◌, sym}
use Rattle.snapshot.proofs.unit.decode_parts.Goals as goal

pub returns-clause-ok : goal.returns-clause-ok
returns-clause-ok g c = λ v rest fit is.
    let seat = c.in_ok-seat.ensures.ok v.seat _ fit.seat is in
    let progress = c.in_ok-progress.ensures.ok v.progress _ fit.progress (sym seat.1) in
    let base = c.in_ok-base.ensures.ok v.base _ fit.base (sym progress.1) in
    let outside = c.in_ok-outside.ensures.ok v.outside _ fit.outside (sym base.1) in
    let intervals = c.in_ok-intervals.ensures.ok v.intervals _ fit.intervals (sym outside.1) in
    let volatile = c.in_ok-volatile.ensures.ok v.volatile _ fit.volatile (sym intervals.1) in
    let shelf = c.in_ok-shelf.ensures.ok v.shelf rest fit.shelf (sym volatile.1) in
    let queue = intervals.0 ∙ sym c.in_ok-intervals-2.ensures in
    let log = volatile.0 ∙ sym c.in_ok-volatile-2.ensures in (
      λ i. record {
        seat = seat.0 i;
        progress = progress.0 i;
        base = base.0 i;
        outside = outside.0 i;
        shelf = shelf.0 i;
        intervals = queue i;
        volatile = log i;
      },
      shelf.1,
    )

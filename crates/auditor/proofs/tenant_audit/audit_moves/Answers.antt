use Rattle.std.proofs.Common.{◌∙◌}
use Rattle.auditor.proofs.Clear.{seats_numbered, a_list_each, clear}
use Rattle.auditor.proofs.tenant_audit.audit_moves.Goals as goal

pub check-requires-clause-seats : goal.check-requires-clause-seats
check-requires-clause-seats g c κs within = seats_numbered
    g.H.Handler.meaning c.args.tenant.now c.args.book.now.history _ (c.as_slice.ensures.value ∙ c.in-Ok.ensures)

pub check-requires-clause-lists : goal.check-requires-clause-lists
check-requires-clause-lists g c κs within = rw (c.as_slice.ensures.value, c.as_slice-2.ensures.value)
    (a_list_each g.H.Handler.meaning c.args.tenant.now c.args.book.now.history c.in-Ok.seats.items
    c.args.moves.now c.in-Ok-all_released.released.items c.in-Ok.ensures c.requires c.in-Ok-all_released.ensures)

pub returns : goal.returns
returns g c = clear g.H.Handler.meaning c.args.tenant.now c.args.book.now.history c.in-Ok.seats.items c.args.moves.now
    c.in-Ok-all_released.released.items c.in-Ok.ensures c.requires c.in-Ok-all_released.ensures c.check.result
    (rw (c.as_slice.ensures.value, c.as_slice-2.ensures.value) at c.check.ensures)

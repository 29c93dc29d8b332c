use Rattle.snapshot.proofs.Lines.{lists_are}
use Rattle.snapshot.proofs.tenants.decode_lines.Goals as goal

pub returns-in-Ok-clause-ok : goal.returns-in-Ok-clause-ok
returns-in-Ok-clause-ok c = λ v rest fit is.
    let read = c.in-Ok.ensures.ok _ rest fit.0 is in
    (lists_are v.0 v.1 c.in-Ok.outlet fit.1 read.0, read.1)

use Rattle.auditor.specs.Parting.{part_in}
use Rattle.auditor.proofs.Parting.{on_both, one_more}
use Rattle.auditor.proofs.parts.add.Goals as goal

pub returns : goal.returns
returns c = on_both c.append.result c.append.ensures.own c.append.ensures.others
    (λ own others. one_more (part_in c.args.map.now) (part_in c.append.new.map) c.args.entry.now
    (rw (c.tenant.ensures, c.in_ok-copied.ensures) at own) (rw c.tenant.ensures at others))

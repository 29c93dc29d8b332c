use Rattle.rollback.proofs.StaysKept.{kept_marked}
use Rattle.rollback.proofs.unit.RecoveryUnit.mark_stable.Goals as goal

pub invariant_of-self : goal.invariant_of-self
invariant_of-self g c =
    kept_marked (record {
      seat = c.self.inside.seat;
      progress = c.self.inside.progress;
      base = c.self.inside.base;
      outside = c.self.inside.outside;
      shelf = c.self.inside.shelf;
      intervals = c.self.inside.intervals.items;
      volatile = c.self.inside.volatile.records;
    })
    c.mark_stable.new.self.records c.args.count c.self.invariant c.mark_stable.ensures.records

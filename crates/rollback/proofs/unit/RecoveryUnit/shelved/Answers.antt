use Rattle.std.proofs.Common.{subst, sym, ℕ, ◌≤◌, ◌^◌, length}
use Rattle.rollback.specs.Units.{Recovering}
use Rattle.rollback.proofs.Snapshots.{few_others}
use Rattle.rollback.proofs.unit.RecoveryUnit.shelved.Goals as goal

pub returns-clause-few : goal.returns-clause-few
returns-clause-few g c =
    let u : Recovering g.row.H-State.Denot = (record {
      seat = c.self.inside.seat;
      progress = c.self.inside.progress;
      base = c.self.inside.base;
      outside = c.self.inside.outside;
      shelf = c.self.inside.shelf;
      intervals = c.self.inside.intervals.items;
      volatile = c.self.inside.volatile.records;
    }) in
    let few : length u.shelf.others ≤ 2 ^ 32 = few_others u c.self.invariant in
    subst (λ (n : ℕ). n ≤ 2 ^ 32) (sym c.len.ensures) few

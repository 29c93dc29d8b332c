use Rattle.std.proofs.Common.{◌≡◌, sym, ap, subst, ◌+◌, ◌-◌, drop, arith}
use Rattle.compact.specs.Steps.{from_outside}
use Rattle.rollback.specs.Units.{Recovering, CountsOutside}
use Rattle.rollback.proofs.StaysKept.{kept_killed}
use Rattle.rollback.proofs.Outside.{counts_shorter, outside_behind}
use Rattle.rollback.proofs.unit.RecoveryUnit.kill.Goals as goal

pub overflow_sub-self : goal.overflow_sub-self
overflow_sub-self g c =
    let n = c.len.ensures in
    let m = c.clear-lost.ensures.count in
    let s = c.self.invariant.stable in
    rw c.count_from_outside.ensures
    (outside_behind c.self.inside.base c.self.inside.outside c.self.inside.intervals.items
    (c.len.result - c.clear-lost.result) c.self.invariant.outside (omega (arith, n, m, s)))

pub invariant_of-self : goal.invariant_of-self
invariant_of-self g c =
    let n = c.len.ensures in
    let m = c.clear-lost.ensures.count in
    let s = c.self.invariant.stable in
    kept_killed (record {
      seat = c.self.inside.seat;
      progress = c.self.inside.progress;
      base = c.self.inside.base;
      outside = c.self.inside.outside;
      shelf = c.self.inside.shelf;
      intervals = c.self.inside.intervals.items;
      volatile = c.self.inside.volatile.records;
    })
    (c.self.inside.outside - c.count_from_outside.result)
    c.truncate.new.self.items c.clear-lost.new.self.records (c.len.result - c.clear-lost.result)
    c.self.invariant c.truncate.ensures.items (omega (arith, n, m, s)) c.clear-lost.ensures.records
    (ap (λ k. c.self.inside.outside - k) c.count_from_outside.ensures)

pub returns-clause-outside : goal.returns-clause-outside
returns-clause-outside g c = λ before was.
    let n = c.len.ensures in
    let m = c.clear-lost.ensures.count in
    let s = c.self.invariant.stable in
    let here : c.self.inside.outside ≡ before + from_outside (drop 1 c.self.inside.intervals.items) =
    subst (λ (u : Recovering _). CountsOutside before u) (sym c.self.view_is) was in
    rw (c.count_from_outside.ensures, c.truncate.ensures.items) (counts_shorter c.self.inside.outside
    before c.self.inside.intervals.items (c.len.result - c.clear-lost.result) (omega (arith, n, m, s)) here)

use Rattle.std.proofs.Common.{◌≡◌, sym, ◌∙◌, ap, subst, ◌+◌, ◌-◌, ◌≤◌, length, take, drop, arith}
use Rattle.compact.specs.Steps.{from_outside}
use Rattle.rollback.specs.Units.{Recovering, CountsOutside, IsTarget, cut_behind, places}
use Rattle.rollback.proofs.Cuts.{cut_nothing, kept_cut}
use Rattle.rollback.proofs.Outside.{counts_shorter, outside_behind}
use Rattle.rollback.proofs.unit.RecoveryUnit.cut.Goals as goal

pub overflow_sub-self : goal.overflow_sub-self
overflow_sub-self g c = rw c.count_from_outside.ensures (outside_behind c.self.inside.base c.self.inside.outside
    c.self.inside.intervals.items (c.args.target - c.self.inside.base + 1) c.self.invariant.outside (omega arith))

pub invariant_of-self : goal.invariant_of-self
invariant_of-self g c =
    let t : IsTarget (record {
      seat = c.self.inside.seat;
      progress = c.self.inside.progress;
      base = c.self.inside.base;
      outside = c.self.inside.outside;
      shelf = c.self.inside.shelf;
      intervals = c.self.inside.intervals.items;
      volatile = c.self.inside.volatile.records;
    }) c.args.target =
    subst (λ (u : Recovering _). IsTarget u c.args.target) (sym c.self.view_is) c.requires in
    let low : c.self.inside.base ≤ c.args.target = t.base in
    let same : c.args.target - c.self.inside.base + 1 ≡ c.args.target + 1 - c.self.inside.base = omega (arith, low) in
    kept_cut (record {
      seat = c.self.inside.seat;
      progress = c.self.inside.progress;
      base = c.self.inside.base;
      outside = c.self.inside.outside;
      shelf = c.self.inside.shelf;
      intervals = c.self.inside.intervals.items;
      volatile = c.self.inside.volatile.records;
    })
    c.args.target (c.self.inside.outside - c.count_from_outside.result)
    c.truncate.new.self.items c.cut.new.self.records c.cut-then-target-last_index.new.self c.self.invariant t
    (ap (λ k. c.self.inside.outside - k) (c.count_from_outside.ensures
    ∙ ap (λ k. from_outside (drop k c.self.inside.intervals.items)) same))
    (c.truncate.ensures.items ∙ ap (λ k. take k c.self.inside.intervals.items) same)
    c.cut.ensures.records c.cut-then-target-last_index.ensures

pub returns-else-target-last_index-clause-unit : goal.returns-else-target-last_index-clause-unit
returns-else-target-last_index-clause-unit g c =
    let path = c.requires.path in
    let at : places c.args.self.now ≡ c.self.inside.base + length c.self.inside.intervals.items =
    ap (λ (u : Recovering _). places u) (sym c.self.view_is) in
    let low = c.if-target-last_index.false in
    let last = c.last_index.ensures in
    let some = c.self.invariant.stable in
    let end : c.args.target + 1 ≡ c.self.inside.base + length c.self.inside.intervals.items =
    omega (arith, path, at, low, last, some) in
    subst (λ (u : Recovering _). u ≡ cut_behind u c.args.target) c.self.view_is
    (cut_nothing (record {
      seat = c.self.inside.seat;
      progress = c.self.inside.progress;
      base = c.self.inside.base;
      outside = c.self.inside.outside;
      shelf = c.self.inside.shelf;
      intervals = c.self.inside.intervals.items;
      volatile = c.self.inside.volatile.records;
    }) c.args.target c.self.invariant end)

pub returns-then-target-last_index-clause-outside : goal.returns-then-target-last_index-clause-outside
returns-then-target-last_index-clause-outside g c = λ before was.
    let here : c.self.inside.outside ≡ before + from_outside (drop 1 c.self.inside.intervals.items) =
    subst (λ (u : Recovering _). CountsOutside before u) (sym c.self.view_is) was in
    rw (c.count_from_outside.ensures, c.truncate.ensures.items) (counts_shorter c.self.inside.outside
    before c.self.inside.intervals.items (c.args.target - c.self.inside.base + 1) (omega arith) here)

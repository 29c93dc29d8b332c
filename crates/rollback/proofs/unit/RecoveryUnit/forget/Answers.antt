use Rattle.std.proofs.Common.{◌≡◌, sym, ◌∙◌, ap, subst, ◌+◌, ◌-◌, true, false, take, drop}
use Rattle.std.specs.Prelude.{◌==◌}
use Rattle.checkpoint.specs.Shelves.{has_index}
use Rattle.compact.specs.Steps.{from_outside}
use Rattle.rollback.specs.Units.{Recovering, CountsOutside}
use Rattle.rollback.proofs.Forgetting.{kept_forgotten, others_have, unequal}
use Rattle.rollback.proofs.Outside.{counts_based}
use Rattle.rollback.proofs.unit.RecoveryUnit.forget.Goals as goal

pub invariant_of-self : goal.invariant_of-self
invariant_of-self g c =
    let other : (c.args.base == c.self.inside.base) ≡ false =
    unequal c.args.base c.self.inside.base c.if-base-self.true in
    kept_forgotten (record {
      seat = c.self.inside.seat;
      progress = c.self.inside.progress;
      base = c.self.inside.base;
      outside = c.self.inside.outside;
      shelf = c.self.inside.shelf;
      intervals = c.self.inside.intervals.items;
      volatile = c.self.inside.volatile.records;
    })
    c.args.base c.move_base.new.self c.pop_fronts.new.intervals.items c.self.invariant
    (others_have c.self.inside.shelf c.self.inside.base c.args.base c.self.invariant.base other
    (subst (λ (u : Recovering _). has_index u.shelf c.args.base ≡ true) (sym c.self.view_is) c.requires))
    c.move_base.ensures (c.pop_fronts.ensures ∙ ap (λ n. drop n c.self.inside.intervals.items) c.saturating_sub.ensures)

pub returns-then-base-self-clause-outside : goal.returns-then-base-self-clause-outside
returns-then-base-self-clause-outside g c = λ before was.
    let is : c.pop_fronts.new.intervals.items ≡ drop (c.args.base - c.self.inside.base) c.self.inside.intervals.items =
    c.pop_fronts.ensures ∙ ap (λ n. drop n c.self.inside.intervals.items) c.saturating_sub.ensures in
    let here : c.self.inside.outside ≡ before + from_outside (drop 1 c.self.inside.intervals.items) =
    subst (λ (u : Recovering _). CountsOutside before u) (sym c.self.view_is) was in
    subst (λ (u : Recovering _). c.self.inside.outside ≡ before + from_outside (take (c.args.base - u.base)
    (drop 1 u.intervals)) + from_outside (drop 1 c.pop_fronts.new.intervals.items)) c.self.view_is
    (rw is (counts_based c.self.inside.outside
    before (c.args.base - c.self.inside.base) c.self.inside.intervals.items here))

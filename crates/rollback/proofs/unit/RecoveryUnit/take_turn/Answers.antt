use Rattle.std.proofs.Common.{◌≡◌, sym, ap, subst, ◌+◌, ◌<◌, ◌^◌, ◌++◌, ◌∷◌, [], drop, arith, rules}
use Rattle.compact.specs.Steps.{from_outside}
use Rattle.rollback.specs.Units.{Recovering, CountsOutside, places, recorded}
use Rattle.rollback.proofs.StaysKept.{kept_took}
use Rattle.rollback.proofs.Outside.{counts_taken}
use Rattle.rollback.proofs.unit.RecoveryUnit.take_turn.Goals as goal

pub invariant_of-self-2 : goal.invariant_of-self-2
invariant_of-self-2 g c =
    let intervals : c.push_back_reserved.new.self.items ≡ c.self.inside.intervals.items
    ++ record { vector = c.args.logged.vector; letter = c.args.logged.letter } ∷ [] =
    search (c.push_back_reserved.ensures.items, c.in_ok-reserve.ensures.items, c.in_ok-vector.ensures, rules) in
    let volatile : c.push.new.self.records ≡ c.self.inside.volatile.records
    ++ recorded c.args.tenant.now c.args.logged ∷ [] =
    search (c.push.ensures.records, c.in_ok-reserve-2.ensures.same, c.copy-2.ensures, c.into_marks.ensures, rules) in
    kept_took (record {
      seat = c.self.inside.seat;
      progress = c.self.inside.progress;
      base = c.self.inside.base;
      outside = c.self.inside.outside;
      shelf = c.self.inside.shelf;
      intervals = c.self.inside.intervals.items;
      volatile = c.self.inside.volatile.records;
    })
    _ (c.self.inside.outside + c.one_from_outside.result)
    c.push_back_reserved.new.self.items c.push.new.self.records
    (record { vector = c.args.logged.vector; letter = c.args.logged.letter })
    (recorded c.args.tenant.now c.args.logged) c.self.invariant
    (subst (λ (u : Recovering _). places u < 2 ^ 32) (sym c.self.view_is) c.requires.room)
    (subst (λ (u : Recovering _). c.args.logged.mark.index ≡ places u) (sym c.self.view_is) c.requires.mark)
    intervals volatile (ap (λ k. c.self.inside.outside + k) c.one_from_outside.ensures.value)

pub returns-clause-outside : goal.returns-clause-outside
returns-clause-outside g c = λ before was.
    let intervals : c.push_back_reserved.new.self.items ≡ c.self.inside.intervals.items
    ++ record { vector = c.args.logged.vector; letter = c.args.logged.letter } ∷ [] =
    search (c.push_back_reserved.ensures.items, c.in_ok-reserve.ensures.items, c.in_ok-vector.ensures, rules) in
    let some = c.self.invariant.stable in
    let here : c.self.inside.outside ≡ before + from_outside (drop 1 c.self.inside.intervals.items) =
    subst (λ (u : Recovering _). CountsOutside before u) (sym c.self.view_is) was in
    rw (intervals, c.one_from_outside.ensures.value)
    (counts_taken c.self.inside.outside before c.self.inside.intervals.items
    (record { vector = c.args.logged.vector; letter = c.args.logged.letter }) (omega (arith, some)) here)

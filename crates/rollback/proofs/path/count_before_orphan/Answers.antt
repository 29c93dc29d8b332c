use Rattle.std.proofs.Common.{◌≡◌, sym, ◌∙◌, ◌+◌, ◌-◌, ◌/◌, arith}
use Rattle.std.proofs.lemmas.List.Sums.{position_or_len_is}
use Rattle.orphan.specs.Tests.{is_orphan_by}
use Rattle.rollback.specs.Units.{unknown}
use Rattle.rollback.proofs.Tails.{none_before}
use Rattle.rollback.proofs.path.count_before_orphan.Goals as goal

pub loop-low-preserved : goal.loop-low-preserved
loop-low-preserved c =
    let lower = c.loop-low-test.true in
    let h = c.loop-low.invariant.within.0 in
    let w = c.loop-low.invariant.within.1 in
    record {
      within = (omega (arith, lower, h), w);
      below = λ tail. none_before
          c.args.table.now c.args.intervals.now.items (c.loop-low.low + (c.loop-low.high - c.loop-low.low) / 2)
          tail (omega (arith, lower, h, w)) (sym c.is_orphan_at.ensures ∙ c.if-is_orphan_at.false);
      at = c.loop-low.invariant.at;
    }

pub returns-clause-position : goal.returns-clause-position
returns-clause-position c = λ tail.
    let done = c.loop-low-test.false in
    let h = c.loop-low.invariant.within.0 in
    let w = c.loop-low.invariant.within.1 in
    let same : c.loop-low.high ≡ c.loop-low.low = omega (arith, done, h) in
    sym (position_or_len_is (λ x. is_orphan_by c.args.table.now x.vector) c.args.intervals.now.items c.loop-low.low
    unknown (omega (arith, h, w)) (c.loop-low.invariant.below tail) (rw (← same) c.loop-low.invariant.at))

use Rattle.std.proofs.Common.{◌≡◌, ◌∙◌, ap, ◌-◌, arith, drop, take}
use Rattle.compact.specs.Compact.{Interval}
use Rattle.tenant.specs.Bases.{emptied_all, emptied_by}
use Rattle.tenant.proofs.Moving.{passed_all, passed_one}
use Rattle.tenant.proofs.forgetting.empty_passed.Goals as goal

pub interval-requires-after_bounds : goal.interval-requires-after_bounds
interval-requires-after_bounds g c κs within = record {
  base = let a = c.loop-index.invariant.from in omega (arith, a);
  path = let a = c.loop-index-test.true in let b = c.requires in omega (arith, a, b);
}

pub loop-index-preserved : goal.loop-index-preserved
loop-index-preserved g c = record {
  letters =
      c.empty_letter.ensures
      ∙ ap (λ (i : Interval). emptied_by c.loop-index.letters.items i.letter) c.behind-unit_state.view_is
      ∙ ap (λ ls. emptied_by ls c.interval.result.now.letter) c.loop-index.invariant.letters
      ∙ passed_one c.args.letters.now.items c.args.unit_state.now.intervals c.args.unit_state.now.base
      c.loop-index.index c.loop-index.invariant.from c.interval.result.now c.interval.ensures;
  from = let a = c.loop-index.invariant.from in omega (arith, a);
  none = λ none. let a = c.loop-index.invariant.from in let b = c.loop-index-test.true in omega (arith, a, b, none);
}

pub returns : goal.returns
returns g c =
    let r = c.args.unit_state.now in
    let same : c.loop-index.index - r.base ≡ c.args.base - r.base = passed_all c.loop-index.index
    c.args.base r.base c.loop-index.invariant.from c.loop-index.invariant.none c.loop-index-test.false
    (λ h. c.loop-index.auto.index-end (let e = c.base-index.ensures in omega (arith, e, h))) in
    c.loop-index.invariant.letters ∙ ap (λ n. emptied_all c.args.letters.now.items (take n (drop 1 r.intervals))) same

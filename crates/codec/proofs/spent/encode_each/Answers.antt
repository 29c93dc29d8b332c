use Rattle.std.proofs.Common.{◌++◌, ◌∙◌, ap, sym, subst, drop, ◌+◌}
use Rattle.codec.specs.Codes.{AllFit, each_code}
use Rattle.codec.specs.Layers.{FitsStretch, stretch_code}
use Rattle.codec.proofs.Each.{at_drop}
use Rattle.codec.proofs.spent.encode_each.Goals as goal

pub loop-number-preserved : goal.loop-number-preserved
loop-number-preserved c =
    let all = c.args.stretches.now in
    let n = c.loop-number.number in
    let left = at_drop all n c.index-stretches-number.result c.loop-number-test.true c.index-stretches-number.is in
    record {
      code = λ rest. c.in_ok-encode_stretch.ensures.code (each_code stretch_code (drop (n + 1) all) rest)
          ∙ ap (λ xs. c.loop-number.out.items ++ each_code stretch_code xs rest) (sym left)
          ∙ c.loop-number.invariant.code rest;
      fits = λ others. c.loop-number.invariant.fits (subst (AllFit FitsStretch) (sym left)
          (c.in_ok-encode_stretch.ensures.fits, others));
    }

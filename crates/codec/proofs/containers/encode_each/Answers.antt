use Rattle.std.proofs.Common.{◌++◌, ◌∙◌, ap, sym, subst, drop, ◌+◌}
use Rattle.codec.specs.Codes.{AllFit, each_code}
use Rattle.codec.proofs.Each.{at_drop}
use Rattle.codec.proofs.containers.encode_each.Goals as goal

pub loop-item-preserved : goal.loop-item-preserved
loop-item-preserved g c =
    let left = at_drop c.args.items.now c.loop-item.item-index c.item-item.result c.loop-item-test.true c.item-item.is
    in
    record {
      code = λ rest. c.in_ok-encode.ensures.code (each_code g.T.Coded.code (drop (c.loop-item.item-index + 1)
          c.args.items.now) rest) ∙ ap (λ xs. c.loop-item.out.items ++ each_code g.T.Coded.code xs rest) (sym left)
          ∙ c.loop-item.invariant.code rest;
      fits = λ others. c.loop-item.invariant.fits (subst (AllFit g.T.Coded.fits) (sym left)
          (c.in_ok-encode.ensures.fits, others));
    }

use Rattle.std.proofs.Common.{◌≡◌, ◌++◌, ◌∙◌, ap, sym, subst, drop, ◌+◌, ◌-◌, arith}
use Rattle.std.specs.Prelude.{Some, slice_get}
use Rattle.codec.specs.Codes.{AllFit, each_code}
use Rattle.codec.specs.Layers.{FitsInterval, interval_code}
use Rattle.codec.proofs.Each.{found_drop}
use Rattle.snapshot.proofs.unit.encode_each_interval.Goals as goal

pub loop-place-preserved : goal.loop-place-preserved
loop-place-preserved g c =
    let all = c.args.unit.now.intervals in
    let there : slice_get c.args.unit.now.intervals c.loop-place.place ≡ Some c.interval.result.now =
    ap (slice_get c.args.unit.now.intervals) (let k : c.loop-place.place
    ≡ (c.base-base.result + c.loop-place.place) - c.args.unit.now.base
    = let e = c.base-base.ensures in omega (arith, e) in k) ∙ c.interval.ensures in
    let left = found_drop all c.loop-place.place c.interval.result.now there in
    record {
      code = λ rest. c.in_ok-encode.ensures.code (each_code interval_code (drop (c.loop-place.place + 1) all) rest)
          ∙ ap (λ xs. c.loop-place.out.items ++ each_code interval_code xs rest) (sym left)
          ∙ c.loop-place.invariant.code rest;
      fits = λ others. c.loop-place.invariant.fits (subst (AllFit FitsInterval) (sym left)
          (c.in_ok-encode.ensures.fits, others));
    }

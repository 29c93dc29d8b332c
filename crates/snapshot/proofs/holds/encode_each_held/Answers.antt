use Rattle.std.proofs.Common.{◌++◌, ◌∙◌, ap, sym, subst, drop, ◌+◌, arith}
use Rattle.codec.specs.Codes.{AllFit, each_code}
use Rattle.codec.specs.Layers.{FitsHeld, held_code}
use Rattle.model.proofs.Places.{get_below}
use Rattle.codec.proofs.Each.{found_drop}
use Rattle.snapshot.proofs.holds.encode_each_held.Goals as goal

pub loop-place-preserved : goal.loop-place-preserved
loop-place-preserved c =
    let all = c.args.hold.now.outputs in
    let x = get_below all c.loop-place.place
    (let a = c.loop-place-test.true in let b = c.requires in omega (arith, a, b)) in
    let left = found_drop all c.loop-place.place x.0 x.1 in
    record {
      code = λ rest. c.in_ok-encode_held.ensures.code x.0 x.1
          (each_code held_code (drop (c.loop-place.place + 1) all) rest)
          ∙ ap (λ xs. c.loop-place.out.items ++ each_code held_code xs rest) (sym left)
          ∙ c.loop-place.invariant.code rest;
      fits = λ others. c.loop-place.invariant.fits (subst (AllFit FitsHeld) (sym left)
          (c.in_ok-encode_held.ensures.fits x.0 x.1, others));
    }

use Rattle.std.proofs.Common.{◌≡◌, ◌++◌, ◌∙◌, ap, sym, subst, drop, ◌+◌}
use Rattle.std.specs.Prelude.{Some, slice_get}
use Rattle.codec.specs.Codes.{AllFit, FitsRecord, each_code, record_code}
use Rattle.codec.proofs.Each.{found_drop}
use Rattle.snapshot.proofs.unit.encode_each_record.Goals as goal

pub loop-place-preserved : goal.loop-place-preserved
loop-place-preserved g c =
    let all = c.args.unit.now.volatile in
    let there : slice_get c.args.unit.now.volatile c.loop-place.place ≡ Some c.volatile_record.result.now =
    c.volatile_record.ensures in
    let left = found_drop all c.loop-place.place c.volatile_record.result.now there in
    record {
      code = λ rest. c.in_ok-encode.ensures.code (each_code record_code (drop (c.loop-place.place + 1) all) rest)
          ∙ ap (λ xs. c.loop-place.out.items ++ each_code record_code xs rest) (sym left)
          ∙ c.loop-place.invariant.code rest;
      fits = λ others. c.loop-place.invariant.fits (subst (AllFit FitsRecord) (sym left)
          (c.in_ok-encode.ensures.fits, others));
    }

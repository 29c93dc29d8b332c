use Rattle.std.proofs.Common.{◌++◌, ◌∙◌, ap, sym, subst, drop, ◌+◌}
use Rattle.codec.specs.Codes.{AllFit, each_code}
use Rattle.snapshot.specs.Parts.{FitsSnapshot, snapshot_code}
use Rattle.codec.proofs.Each.{at_drop}
use Rattle.snapshot.proofs.progress.encode_each_snapshot.Goals as goal

pub loop-snapshot-preserved : goal.loop-snapshot-preserved
loop-snapshot-preserved g c =
    let left = at_drop c.args.snapshots.now c.loop-snapshot.snapshot-index c.snapshot-item.result
    c.loop-snapshot-test.true c.snapshot-item.is in
    record {
      code = λ rest. c.in_ok-encode_snapshot.ensures.code (each_code (snapshot_code g.H.Portable.state_code) (drop
          (c.loop-snapshot.snapshot-index + 1)
          c.args.snapshots.now) rest) ∙ ap (λ xs. c.loop-snapshot.out.items ++ each_code
          (snapshot_code g.H.Portable.state_code) xs rest) (sym left)
          ∙ c.loop-snapshot.invariant.code rest;
      fits = λ others. c.loop-snapshot.invariant.fits (subst (AllFit (FitsSnapshot g.H.Portable.state_fits)) (sym left)
          (c.in_ok-encode_snapshot.ensures.fits, others));
    }

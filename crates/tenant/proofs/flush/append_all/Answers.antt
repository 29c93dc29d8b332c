use Rattle.std.proofs.Common.{◌<◌, ◌∙◌, length, arith}
use Rattle.tenant.proofs.Logging.{logged_one, of_one}
use Rattle.tenant.proofs.flush.append_all.Goals as goal

pub loop-i-preserved : goal.loop-i-preserved
loop-i-preserved g c =
    let i = c.loop-i.i in
    let records = c.args.unit_state.now.volatile in
    let within : i < length records =
    (let a = c.loop-i-test.true in let b = c.volatile_count-i-end.ensures in omega (arith, a, b)) in
    record {
      records = logged_one c.args.tenant.now records i within c.args.log.now.records
          c.loop-i.log.records c.append_at.new.log.records c.in-Ok.ensures.ok c.loop-i.invariant.records;
      own = of_one c.args.tenant.now records i within c.args.log.now.records
          c.loop-i.log.records c.append_at.new.log.records c.in-Ok.ensures.ok c.loop-i.invariant.own;
      up = let a = c.loop-i.invariant.up in let b = c.append_at.ensures.up in omega (arith, a, b);
      steady = c.in-Ok.ensures.steady (λ e. absurd (cc e)) ∙ c.loop-i.invariant.steady;
    }

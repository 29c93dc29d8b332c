use Rattle.std.proofs.Common.{◌-◌, arith}
use Rattle.riscv.proofs.Steps.{steps_none, steps_add}
use Rattle.riscv.proofs.machine.Machine.run.Goals as goal

pub loop-left-init : goal.loop-left-init
loop-left-init c = (omega arith, steps_none _ _ (omega arith))

pub returns-in-Err : goal.returns-in-Err
returns-in-Err c =
    let i = c.loop-left.invariant in
    let r = c.round.ensures in
    let ends = rw c.in-Err.is at r.ends in
    record {
      made = steps_add (c.args.most - c.loop-left.left) (c.loop-left.left - c.round.new.left) _ _ _ _
          (omega (arith, i.0, r.fewer)) i.1 r.made;
      why = (omega (arith, i.0, r.fewer, ends.0), ends.1);
    }

pub loop-left-preserved : goal.loop-left-preserved
loop-left-preserved c =
    let i = c.loop-left.invariant in
    let r = c.round.ensures in
    let made = steps_add (c.args.most - c.loop-left.left) (c.loop-left.left - c.round.new.left)
    (c.args.most - c.round.new.left) _ _ _ (omega (arith, i.0, r.fewer)) i.1 r.made in
    (omega (arith, i.0, r.fewer), made)

use Rattle.std.proofs.Common.{◌∙◌, arith}
use Rattle.unit_steps.proofs.Frontiers.{ends, goes_on}
use Rattle.unit_steps.proofs.frontier.frontier_after.Goals as goal

pub loop-firm-preserved : goal.loop-firm-preserved
loop-firm-preserved g c =
    let low = c.loop-firm.invariant.base in
    let last = c.last_index.ensures.last in
    let before = c.loop-firm-test.true in
    record {
      base = omega (arith, low);
      value = λ is. (
        omega (arith, last, before),
        goes_on c.args.table.now c.args.stable_lengths.now
            c.args.unit_state.now c.loop-firm.firm low (omega (arith, last, before)) c.is_firm_at.result
            c.if-is_firm_at.true (c.is_firm_at.ensures is.vectors) ∙ (c.loop-firm.invariant.value is).1,
      );
    }

pub returns-else-is_firm_at : goal.returns-else-is_firm_at
returns-else-is_firm_at g c is =
    let low = c.loop-firm.invariant.base in
    let last = c.last_index.ensures.last in
    let before = c.loop-firm-test.true in
    ends c.args.table.now c.args.stable_lengths.now c.args.unit_state.now c.loop-firm.firm
    low (omega (arith, last, before)) c.is_firm_at.result c.if-is_firm_at.false (c.is_firm_at.ensures is.vectors)
    ∙ (c.loop-firm.invariant.value is).1

use Rattle.std.proofs.Common.{◌∙◌, sym, arith}
use Rattle.unit_steps.proofs.Spent.{counted_more, counted_same}
use Rattle.unit_steps.proofs.sent_letters.count_front.Goals.{then-was_to, else-was_to}
use Rattle.unit_steps.proofs.sent_letters.count_front.Goals as goal

pub loop-number-preserved : goal.loop-number-preserved
loop-number-preserved c =
    let n = c.loop-number.number in
    let xs = c.args.spent.now in
    let few = c.loop-number.invariant.few in
    let all = c.loop-number.invariant.all in
    elim c.if-was_to.branch [
      | then-was_to w ↦
          let is = w.count-is in
          let more = counted_more c.args.unit xs n _ c.at.ensures (sym c.was_to.ensures ∙ w.if-was_to.true) in record {
            all = omega (arith, is, more, all);
            few = omega (arith, is, few);
          }
      | else-was_to w ↦
          let is = w.count-is in
          let same = counted_same c.args.unit xs n _ c.at.ensures (sym c.was_to.ensures ∙ w.if-was_to.false) in record {
            all = omega (arith, is, same, all);
            few = omega (arith, is, few);
          }
    ]

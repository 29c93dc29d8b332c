use Rattle.std.proofs.Common.{◌∙◌, sym, arith}
use Rattle.auditor.proofs.Orders.{numbered_down}
use Rattle.auditor.proofs.checkable.are_numbered.Goals as goal

pub loop-left-preserved : goal.loop-left-preserved
loop-left-preserved c =
    let within = c.loop-left.invariant.0 in
    let test = c.loop-left-test.true in (
      omega (arith, within),
      numbered_down (λ s. s.unit) c.args.seats.now c.loop-left.left c.index-seats-left.result test within
          (sym c.number.ensures ∙ sym c.from.ensures ∙ c.if-from-left.false) c.loop-left.invariant.1,
    )

use Rattle.std.proofs.Common.{◌∙◌, sym, ◌-◌, ◌/◌, arith, length}
use Rattle.spent_letters.proofs.Periods.{least_end, least_found, least_passed}
use Rattle.spent_letters.proofs.stretch.period_of.Goals as goal

pub returns-then-is_repeated : goal.returns-then-is_repeated
returns-then-is_repeated c =
    let test = c.loop-at-test.true in
    sym (least_found c.args.head.now c.loop-at.at (length c.args.head.now / 2 - c.loop-at.at)
    (sym c.is_repeated.ensures ∙ c.if-is_repeated.true) (omega (arith, test)))
    ∙ c.loop-at.invariant

pub loop-at-preserved : goal.loop-at-preserved
loop-at-preserved c =
    let test = c.loop-at-test.true in
    sym (least_passed c.args.head.now c.loop-at.at (length c.args.head.now / 2)
    (sym c.is_repeated.ensures ∙ c.if-is_repeated.false) test)
    ∙ c.loop-at.invariant

pub returns : goal.returns
returns c =
    let test = c.loop-at-test.false in
    sym (least_end c.args.head.now c.loop-at.at (length c.args.head.now / 2) test) ∙ c.loop-at.invariant

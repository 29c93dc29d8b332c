use Rattle.std.proofs.Common.{◌≡◌, ◌∙◌, ◌-◌, Err, ap, sym, arith}
use Rattle.programs.proofs.Runs.{run_ends, run_goes, run_is_cut, run_spent, run_proceeds}
use Rattle.programs.proofs.course.Course.run.Goals as goal

pub returns-then-at : goal.returns-then-at
returns-then-at c =
    let ran = c.proceed-ran.ensures in
    let why = rw c.in-Some.is at ran.runs.why in
    let left = c.loop-left.left - c.proceed-ran.result.done in
    let upto = run_proceeds c.proceed-ran.result.done c.loop-left.left c.loop-left.course c.proceed-ran.new.self
    (omega (arith, why.0)) ran.runs.made ran.same in
    sym c.loop-left.invariant ∙ upto
    ∙ run_ends left c.proceed-ran.new.self (omega (arith, why.0)) (sym c.counter-at.ensures ∙ c.if-at.true)

pub loop-left-preserved-in-Ok : goal.loop-left-preserved-in-Ok
loop-left-preserved-in-Ok c =
    let ran = c.proceed-ran.ensures in
    let why = rw c.in-Some.is at ran.runs.why in
    let left = c.loop-left.left - c.proceed-ran.result.done in
    let upto = run_proceeds c.proceed-ran.result.done c.loop-left.left c.loop-left.course c.proceed-ran.new.self
    (omega (arith, why.0)) ran.runs.made ran.same in
    let goes = run_goes left (left - 1) c.proceed-ran.new.self c.go_on.new.self (omega (arith, why.0))
    (λ e. c.if-at.false (c.counter-at.ensures ∙ e)) c.in-Ok.ensures in
    sym goes ∙ sym upto ∙ c.loop-left.invariant

pub returns-in-Err-For : goal.returns-in-Err-For
returns-in-Err-For c =
    let ran = c.proceed-ran.ensures in
    let why = rw c.in-Some.is at ran.runs.why in
    let left = c.loop-left.left - c.proceed-ran.result.done in
    let upto = run_proceeds c.proceed-ran.result.done c.loop-left.left c.loop-left.course c.proceed-ran.new.self
    (omega (arith, why.0)) ran.runs.made ran.same in
    let cut = run_is_cut left c.proceed-ran.new.self c.in-Err-For.cut c.counter-at.result
    (omega (arith, why.0)) (λ e. c.if-at.false (c.counter-at.ensures ∙ e)) c.counter-at.ensures
    (rw c.in-Err-For.field-0-is at c.in-Err-For.ensures) in
    sym c.loop-left.invariant ∙ upto ∙ cut ∙ ap Err (sym (rw c.in-Err-For.field-0-is at c.ending.ensures))

pub loop-left-preserved : goal.loop-left-preserved
loop-left-preserved c =
    let ran = c.proceed-ran.ensures in
    let why = rw c.in_default.is at ran.runs.why in
    let upto = run_proceeds c.proceed-ran.result.done c.loop-left.left c.loop-left.course c.proceed-ran.new.self
    (omega (arith, why)) ran.runs.made ran.same in
    sym upto ∙ c.loop-left.invariant

pub returns : goal.returns
returns c =
    let none : c.loop-left.left ≡ 0 = omega (arith, c.loop-left-test.false) in
    sym c.loop-left.invariant
    ∙ run_spent c.loop-left.left c.loop-left.course c.counter-at-2.result none c.counter-at-2.ensures

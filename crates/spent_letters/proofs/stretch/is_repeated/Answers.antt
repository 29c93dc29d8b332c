use Rattle.std.proofs.Common.{◌≡◌, ◌∙◌, sym, ap, suc, ◌+◌, ◌-◌, ◌<◌, arith, drop, length, refl}
use Rattle.std.specs.Prelude.{◌&&◌}
use Rattle.std.proofs.lemmas.Option.{slice_get_read}
use Rattle.spent_letters.specs.Stretches.{agree}
use Rattle.spent_letters.proofs.Periods.{agree_end, agree_step}
use Rattle.spent_letters.proofs.stretch.is_repeated.Goals as goal

pub returns-then-not-is_as : goal.returns-then-not-is_as
returns-then-not-is_as c =
    let xs = c.args.head.now in
    let test = c.loop-at-test.true in
    let before : c.loop-at.at - c.args.period < length xs = omega (arith, test) in
    let step = agree_step xs c.loop-at.at (c.loop-at.at - c.args.period) _ _
    (slice_get_read xs (length xs) c.loop-at.at _ refl test c.index-head-at.is)
    (slice_get_read xs (length xs) (c.loop-at.at - c.args.period) _ refl before c.index-head-at-in-loop-at.is) in
    let rest = agree (drop (suc c.loop-at.at) xs) (drop (suc (c.loop-at.at - c.args.period)) xs) in
    sym (sym c.loop-at.invariant ∙ step ∙ ap (λ b. b && rest) (sym c.is_as.ensures ∙ c.if-not-is_as.true))

pub loop-at-preserved : goal.loop-at-preserved
loop-at-preserved c =
    let xs = c.args.head.now in
    let test = c.loop-at-test.true in
    let from = c.loop-at.auto.at in
    let before : c.loop-at.at - c.args.period < length xs = omega (arith, test) in
    let step = agree_step xs c.loop-at.at (c.loop-at.at - c.args.period) _ _
    (slice_get_read xs (length xs) c.loop-at.at _ refl test c.index-head-at.is)
    (slice_get_read xs (length xs) (c.loop-at.at - c.args.period) _ refl before c.index-head-at-in-loop-at.is) in
    let rest = agree (drop (suc c.loop-at.at) xs) (drop (suc (c.loop-at.at - c.args.period)) xs) in
    ap (λ n. agree (drop n xs) (drop (c.loop-at.at + 1 - c.args.period) xs))
    (let t : c.loop-at.at + 1 ≡ suc c.loop-at.at = omega (arith) in t)
    ∙ ap (λ n. agree (drop (suc c.loop-at.at) xs) (drop n xs))
    (let t : c.loop-at.at + 1 - c.args.period ≡ suc (c.loop-at.at - c.args.period) = omega (arith, from) in t)
    ∙ sym (step ∙ ap (λ b. b && rest) (sym c.is_as.ensures ∙ c.if-not-is_as.false))
    ∙ c.loop-at.invariant

pub returns : goal.returns
returns c = sym (agree_end c.args.head.now _ c.loop-at.at c.loop-at-test.false) ∙ c.loop-at.invariant

use Rattle.std.proofs.Common.{rules, ◌≡◌, ◌++◌, ◌∙◌, ap, sym, subst, drop, ◌+◌, arith, List, ℕ, length, reverse}
use Rattle.codec.specs.Codes.{AllFit, each_code}
use Rattle.codec.specs.Layers.{FitsStretch, stretch_code}
use Rattle.codec.specs.declared.fault.DecodeFault.TheVariants.{NoMemory}
use Rattle.codec.proofs.Each.{there}
use Rattle.codec.proofs.Stretched.{follows_at, letters_more}
use Rattle.spent_letters.specs.Stretches.{follows, grown, letters_in, packed, AreWhole, Stretch}
use Rattle.codec.proofs.spent.decode_each.Goals as goal

pub loop-init : goal.loop-init
unfolding letters_in
loop-init c = λ vs rest len w fit is. (c.requires, is, fit)

pub returns-in_err-decode_stretch-clause-err : goal.returns-in_err-decode_stretch-clause-err
returns-in_err-decode_stretch-clause-err c =
    let only : (vs : List Stretch) (rest : List ℕ) → length vs ≡ c.args.count → AreWhole (reverse vs)
    → AllFit FitsStretch vs → c.args.input.now ≡ each_code stretch_code vs rest
    → c.in_err-decode_stretch.field-0.0 ≡ NoMemory
    = λ vs rest len w fit is.
    let before = c.loop.invariant vs rest len w fit is in
    let x = there vs c.loop.counter (let a = c.loop-test.true in omega (arith, a, len)) in
    c.in_err-decode_stretch.ensures.err x.0 (each_code stretch_code (drop (c.loop.counter + 1) vs) rest)
    (subst (AllFit FitsStretch) x.1 before.2).0
    (ap (λ l. follows (packed l) x.0.head) before.0 ∙ follows_at vs c.loop.counter x.0 w x.2)
    (before.1 ∙ ap (λ xs. each_code stretch_code xs rest) x.1) in
    search (rules, only)

pub loop-preserved : goal.loop-preserved
loop-preserved c = λ vs rest len w fit is.
    let before = c.loop.invariant vs rest len w fit is in
    let x = there vs c.loop.counter (let a = c.loop-test.true in omega (arith, a, len)) in
    let fits = subst (AllFit FitsStretch) x.1 before.2 in
    let read = c.in_ok-decode_stretch.ensures.ok x.0 (each_code stretch_code (drop (c.loop.counter + 1) vs) rest) fits.0
    (ap (λ l. follows (packed l) x.0.head) before.0 ∙ follows_at vs c.loop.counter x.0 w x.2)
    (before.1 ∙ ap (λ xs. each_code stretch_code xs rest) x.1) in (
      read.0 ∙ ap (λ l. l ++ grown x.0.head x.0.more) before.0 ∙ sym (letters_more vs c.loop.counter x.0 x.2),
      sym read.1,
      fits.1,
    )

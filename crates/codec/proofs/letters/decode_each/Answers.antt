use Rattle.std.proofs.Common.{rules, ◌≡◌, ◌++◌, ◌∷◌, [], ◌∙◌, ap, sym, subst, drop, take, ◌+◌, arith}
use Rattle.std.proofs.lemmas.List.{append_assoc}
use Rattle.codec.specs.Codes.{AllFit, UnlessEach, each_code}
use Rattle.codec.specs.Layers.{FitsLetter, letter_code}
use Rattle.codec.specs.declared.fault.DecodeFault.TheVariants.{NoMemory}
use Rattle.codec.proofs.Each.{there, from_start}
use Rattle.codec.proofs.letters.decode_each.Goals as goal

pub loop-preserved : goal.loop-preserved
loop-preserved c = λ vs rest len fit is.
    let before = c.loop.invariant vs rest len fit is in
    let x = there vs c.loop.counter (let a = c.loop-test.true in omega (arith, a, len)) in
    let fits = subst (AllFit FitsLetter) x.1 before.2 in
    let read = c.in_ok-letter.ensures.ok x.0 (each_code letter_code (drop (c.loop.counter + 1) vs) rest) fits.0
    (before.1 ∙ ap (λ xs. each_code letter_code xs rest) x.1) in (
      c.in_ok-push.ensures ∙ (λ i. before.0 i ++ sym read.0 i ∷ [])
          ∙ append_assoc c.args.letters.now.items (take c.loop.counter vs) (x.0 ∷ [])
          ∙ ap (λ l. c.args.letters.now.items ++ l) (sym x.2),
      sym read.1,
      fits.1,
    )

pub returns-in_err-letter-clause-err : goal.returns-in_err-letter-clause-err
returns-in_err-letter-clause-err c =
    let only : UnlessEach letter_code FitsLetter c.args.count c.args.input.now (c.in_err-letter.field-0.0 ≡ NoMemory)
    = λ vs rest len fit is.
    let before = c.loop.invariant vs rest len fit is in
    let x = there vs c.loop.counter (let a = c.loop-test.true in omega (arith, a, len)) in
    c.in_err-letter.ensures.err x.0 (each_code letter_code (drop (c.loop.counter + 1) vs) rest)
    (subst (AllFit FitsLetter) x.1 before.2).0
    (before.1 ∙ ap (λ xs. each_code letter_code xs rest) x.1) in
    search (rules, only)

pub returns-clause-ok : goal.returns-clause-ok
returns-clause-ok c = λ vs rest len fit is.
    let before = c.loop.invariant vs rest len fit is in
    let all = from_start vs c.loop.counter (let a = c.loop-test.false in omega (arith, a, len)) in (
      before.0 ∙ ap (λ l. c.args.letters.now.items ++ l) all.0,
      sym (before.1 ∙ ap (λ xs. each_code letter_code xs rest) all.1),
    )

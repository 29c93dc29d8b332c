use Rattle.std.proofs.Common.{rules, ◌≡◌, ◌++◌, ◌∷◌, [], ◌∙◌, ap, sym, subst, drop, ◌+◌, length, arith}
use Rattle.std.proofs.Common.{length-append}
use Rattle.codec.specs.Codes.{AllFit, UnlessEach, each_code}
use Rattle.codec.specs.declared.fault.DecodeFault.TheVariants.{NoMemory}
use Rattle.codec.proofs.Each.{there, from_start}
use Rattle.programs.specs.Coding.{FitsWord, word_code}
use Rattle.programs.proofs.memories.decode_words.Goals as goal

pub loop-preserved : goal.loop-preserved
loop-preserved c = record {
  size = simp (length-append) at (ap length c.in_ok-put.ensures) ∙ ap (λ n. n + 1) c.loop.invariant.size;
  read = λ vs rest len fit is.
      let before = c.loop.invariant.read vs rest len fit is in
      let x = there vs c.loop.counter (let a = c.loop-test.true in omega (arith, a, len)) in
      let fits = subst (AllFit FitsWord) x.1 before.2 in
      let read = c.in_ok-word.ensures.ok x.0 (each_code word_code (drop (c.loop.counter + 1) vs) rest) fits.0
      (before.1 ∙ ap (λ xs. each_code word_code xs rest) x.1) in (
        c.in_ok-put.ensures ∙ (λ i. before.0 i ++ sym read.0 i ∷ []) ∙ sym x.2,
        sym read.1,
        fits.1,
      );
}

pub returns-in_err-word-clause-err : goal.returns-in_err-word-clause-err
returns-in_err-word-clause-err c =
    let only : UnlessEach word_code FitsWord 1024 c.args.input.now (c.in_err-word.field-0.0 ≡ NoMemory)
    = λ vs rest len fit is.
    let before = c.loop.invariant.read vs rest len fit is in
    let x = there vs c.loop.counter (let a = c.loop-test.true in omega (arith, a, len)) in
    c.in_err-word.ensures.err x.0 (each_code word_code (drop (c.loop.counter + 1) vs) rest)
    (subst (AllFit FitsWord) x.1 before.2).0
    (before.1 ∙ ap (λ xs. each_code word_code xs rest) x.1) in
    search (rules, only)

pub returns-clause-ok : goal.returns-clause-ok
returns-clause-ok c = λ vs rest len fit is.
    let before = c.loop.invariant.read vs rest len fit is in
    let all = from_start vs c.loop.counter (let a = c.loop-test.false in omega (arith, a, len)) in
    (sym (before.0 ∙ all.0), sym (before.1 ∙ ap (λ xs. each_code word_code xs rest) all.1))

use Rattle.std.proofs.Common.{rules, ◌≡◌, ◌++◌, ◌∷◌, [], ◌∙◌, ap, sym, subst, drop, ◌+◌, arith}
use Rattle.codec.specs.Codes.{AllFit, UnlessEach, each_code}
use Rattle.snapshot.specs.Parts.{FitsLine, line_code}
use Rattle.codec.specs.declared.fault.DecodeFault.TheVariants.{NoMemory}
use Rattle.codec.proofs.Each.{there, from_start}
use Rattle.snapshot.proofs.outlets.decode_all_onto.Goals as goal

pub loop-preserved : goal.loop-preserved
loop-preserved c = λ vs rest len fit is.
    let before = c.loop.invariant vs rest len fit is in
    let x = there vs c.loop.counter (let a = c.loop-test.true in omega (arith, a, len)) in
    let fits = subst (AllFit FitsLine) x.1 before.2 in
    let read = c.in_ok-decode_onto.ensures.ok x.0 (each_code line_code (drop (c.loop.counter + 1) vs) rest) fits.0
    (before.1 ∙ ap (λ xs. each_code line_code xs rest) x.1) in
    (read.0 ∙ ap (λ xs. xs ++ x.0 ∷ []) before.0 ∙ sym x.2, sym read.1, fits.1)

pub returns-in_err-decode_onto-clause-err : goal.returns-in_err-decode_onto-clause-err
returns-in_err-decode_onto-clause-err c =
    let only : UnlessEach line_code FitsLine c.args.count c.args.input.now
    (c.in_err-decode_onto.field-0.0 ≡ NoMemory)
    = λ vs rest len fit is.
    let before = c.loop.invariant vs rest len fit is in
    let x = there vs c.loop.counter (let a = c.loop-test.true in omega (arith, a, len)) in
    c.in_err-decode_onto.ensures.err x.0 (each_code line_code (drop (c.loop.counter + 1) vs) rest)
    (subst (AllFit FitsLine) x.1 before.2).0
    (before.1 ∙ ap (λ xs. each_code line_code xs rest) x.1) in
    search (rules, only)

pub returns-clause-ok : goal.returns-clause-ok
returns-clause-ok c = λ vs rest len fit is.
    let before = c.loop.invariant vs rest len fit is in
    let all = from_start vs c.loop.counter (let a = c.loop-test.false in omega (arith, a, len)) in
    (sym (before.0 ∙ all.0), sym (before.1 ∙ ap (λ xs. each_code line_code xs rest) all.1))

use Rattle.std.proofs.Common.{rules, ◌≡◌, ◌++◌, ◌∷◌, [], ◌∙◌, ap, sym, subst, drop, take, ◌+◌, ◌<◌, length, arith}
use Rattle.std.proofs.Common.{get_or, add-one}
use Rattle.std.proofs.lemmas.List.{append-nil}
use Rattle.std.specs.Prelude.{slice_set}
use Rattle.codec.specs.Codes.{AllFit, Unless, each_code}
use Rattle.codec.specs.declared.fault.DecodeFault.TheVariants.{NoMemory}
use Rattle.codec.proofs.Each.{there, from_start}
use Rattle.riscv.specs.Memories.{zero_page, zeros}
use Rattle.riscv.proofs.Pages.{length_zeros}
use Rattle.riscv.proofs.Places.{zero_page_in}
use Rattle.programs.specs.Coding.{FitsMemory, FitsPage, memory_code, page_code}
use Rattle.programs.proofs.Coded.{at_others, set_among_others}
use Rattle.programs.proofs.memories.decode_pages.Goals as goal

pub loop-index-preserved : goal.loop-index-preserved
loop-index-preserved c = λ v rest fits is.
    let before = c.loop-index.invariant v rest fits is in
    let within : c.loop-index.index < length v = let a = c.loop-index-test.true in omega (arith, a, fits.0) in
    let same : length zeros ≡ length v = length_zeros ∙ sym fits.0 in
    let x = there v c.loop-index.index within in
    let left = subst (AllFit FitsPage) x.1 before.2 in
    let zero_here : get_or c.loop-index.memory c.loop-index.index [] ≡ zero_page =
    ap (λ m. get_or m c.loop-index.index []) before.0 ∙ at_others v zeros c.loop-index.index [] within same
    ∙ zero_page_in c.loop-index.index (omega arith) in
    let read = c.in_ok-decode_page.ensures.ok x.0
    (each_code page_code (drop (c.loop-index.index + 1) v) rest) left.0
    (before.1 ∙ ap (λ xs. each_code page_code xs rest) x.1) zero_here in
    let next = set_among_others v zeros c.loop-index.index x.0 within same
    ∙ ap (λ n. (take c.loop-index.index v ++ x.0 ∷ []) ++ drop n zeros) (sym (add-one c.loop-index.index)) in (
      read.0 ∙ ap (λ m. slice_set m c.loop-index.index x.0) before.0 ∙ next
          ∙ ap (λ front. front ++ drop (c.loop-index.index + 1) zeros) (sym x.2),
      sym read.1,
      left.1,
    )

pub returns-in_err-decode_page-clause-err : goal.returns-in_err-decode_page-clause-err
returns-in_err-decode_page-clause-err c =
    let only : Unless memory_code FitsMemory c.args.input.now (c.in_err-decode_page.field-0.0 ≡ NoMemory)
    = λ v rest fits is.
    let before = c.loop-index.invariant v rest fits is in
    let x = there v c.loop-index.index (let a = c.loop-index-test.true in omega (arith, a, fits.0)) in
    c.in_err-decode_page.ensures.err x.0 (each_code page_code (drop (c.loop-index.index + 1) v) rest)
    (subst (AllFit FitsPage) x.1 before.2).0
    (before.1 ∙ ap (λ xs. each_code page_code xs rest) x.1) in
    search (rules, only)

pub returns-clause-ok : goal.returns-clause-ok
returns-clause-ok c = λ v rest fits is.
    let before = c.loop-index.invariant v rest fits is in
    let end = c.loop-index-test.false in
    let all = from_start v c.loop-index.index (omega (arith, end, fits.0)) in
    let none = from_start zeros c.loop-index.index (omega (arith, end, length_zeros)) in (
      sym (before.0 ∙ ap (λ xs. take c.loop-index.index v ++ xs) none.1 ∙ append-nil (take c.loop-index.index v)
          ∙ all.0),
      sym (before.1 ∙ ap (λ xs. each_code page_code xs rest) all.1),
    )

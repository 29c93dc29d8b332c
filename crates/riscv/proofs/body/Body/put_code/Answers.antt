use Rattle.std.proofs.Common.{sym, ◌∙◌, ap, subst}
use Rattle.std.specs.Option.{option_map}
use Rattle.std.specs.Prelude.{slice_set}
use Rattle.riscv.specs.Storages.{items_of, words_of}
use Rattle.riscv.specs.Predecoding.{Decodes}
use Rattle.riscv.proofs.KeptCode.{decodes_read}
use Rattle.riscv.proofs.body.Body.put_code.Goals as goal

pub invariant_of-self-2 : goal.invariant_of-self-2
invariant_of-self-2 c =
    let inside = c.self.inside in
    let same = c.put.ensures
    ∙ ap (option_map (λ xs. slice_set xs c.args.at c.args.said.now)) c.in_ok-part.ensures.same in
    let said = rw (← c.self.view_is) at c.requires.said in
    let kept = decodes_read (items_of inside.code) (words_of inside.words) c.args.at c.args.said.now
    c.self.invariant.size c.requires.within said c.self.invariant.kept in
    record { size = c.self.invariant.size; kept = subst (λ code. Decodes code (words_of inside.words)) (sym same) kept }

use Rattle.std.proofs.Common.{◌∙◌}
use Rattle.std.proofs.lemmas.List.{length-set}
use Rattle.riscv.proofs.KeptCode.{keeps_set}
use Rattle.riscv.proofs.body.Body.set_word.Goals as goal

pub invariant_of-self-in-Own-code : goal.invariant_of-self-in-Own-code
invariant_of-self-in-Own-code c =
    let size = rw c.in-Own.is at c.self.invariant.size in
    let kept = rw (c.in-Own.is, c.in-Own-code.is) at c.self.invariant.kept in
    record {
      size = length-set c.in-Own.words.items c.args.at c.args.n ∙ size;
      kept = keeps_set c.in-Own-code.code.items c.in-Own.words.items c.args.at c.args.n size c.requires kept;
    }

use Rattle.std.proofs.Common.{◌∙◌, ap, Some}
use Rattle.std.specs.Prelude.{unwrap_or}
use Rattle.riscv.specs.Storages.{items_of, words_of}
use Rattle.riscv.proofs.KeptCode.{page_written}
use Rattle.riscv.proofs.body.Body.set_word_apart.Goals as goal

pub invariant_of-self-2 : goal.invariant_of-self-2
invariant_of-self-2 c =
    let inside = c.self.inside in
    let own = c.in_ok-own.ensures.ok ∙ ap (λ z. Some (unwrap_or (items_of inside.words) z)) c.zeros.ensures in
    let both = page_written (words_of inside.words) (items_of c.own.new.self)
    (items_of c.put.new.self) (items_of inside.code) (items_of c.part.new.self)
    (items_of c.put-2.new.self) c.args.at c.args.n c.self.invariant.size c.requires c.self.invariant.kept own
    c.put.ensures c.in_ok-part.ensures.same c.put-2.ensures in
    record { size = both.0; kept = both.1 }

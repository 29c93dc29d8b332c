use Rattle.std.proofs.Common.{◌∙◌, sym, ap}
use Rattle.spent_letters.specs.Stretches.{packed, Packed}
use Rattle.spent_letters.proofs.Packing.{packed_back}
use Rattle.spent_letters.proofs.spent_letters.SpentLetters.tail.Goals as goal

pub returns : goal.returns
returns c =
    c.as_slice.ensures.value
    ∙ ap (λ (p : Packed). p.tail) (sym (packed_back _ c.self.invariant.0))
    ∙ ap (λ l. (packed l).tail) c.self.view_is

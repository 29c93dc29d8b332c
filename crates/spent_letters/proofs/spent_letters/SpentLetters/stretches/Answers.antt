use Rattle.std.proofs.Common.{◌∙◌, sym, ap, reverse}
use Rattle.spent_letters.specs.Stretches.{packed, Packed}
use Rattle.spent_letters.proofs.Packing.{packed_back}
use Rattle.spent_letters.proofs.spent_letters.SpentLetters.stretches.Goals as goal

pub returns : goal.returns
returns c =
    ap reverse c.as_slice.ensures.value
    ∙ ap (λ (p : Packed). p.stretches) (sym (packed_back _ c.self.invariant.0))
    ∙ ap (λ l. (packed l).stretches) c.self.view_is

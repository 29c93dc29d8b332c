use Rattle.std.proofs.Common.{◌++◌, ◌∙◌, ap, sym, subst, length, reverse}
use Rattle.std.proofs.lemmas.List.{reverse-reverse}
use Rattle.codec.specs.Codes.{each_code, list_code}
use Rattle.codec.specs.Layers.{spent_code, stretch_code}
use Rattle.spent_letters.specs.Stretches.{letters_in, packed, AreWhole}
use Rattle.spent_letters.proofs.Packing.{packed_back}
use Rattle.codec.proofs.spent.decode_spent.Goals as goal

pub returns-clause-ok : goal.returns-clause-ok
returns-clause-ok c = λ v rest fits is.
    let vs = reverse v.stretches in
    let behind = list_code spent_code v.tail rest in
    let count = c.in_ok-count.ensures.ok (length vs) (each_code stretch_code vs behind) fits.1.0.1 is in
    let whole = subst AreWhole (sym (reverse-reverse v.stretches)) fits.0.whole in
    let read = c.in_ok-decode_each.ensures.ok vs behind count.0 whole fits.1.0.0 (sym count.1) in
    let tail = c.in_ok-tail.ensures.ok v.tail rest fits.1.1 (sym read.1) in (
      sym (packed_back v fits.0)
          ∙ ap (λ l. packed (l ++ v.tail)) (ap letters_in (sym (reverse-reverse v.stretches)) ∙ sym read.0)
          ∙ ap (λ l. packed (c.decode_each.new.letters ++ l)) (tail.0 ∙ sym c.as_slice.ensures.value)
          ∙ ap packed (sym c.in_ok-push_each.ensures),
      tail.1,
    )

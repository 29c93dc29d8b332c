use Rattle.std.proofs.Common.{◌≡◌, ◌∙◌, refl, sym, ap, subst, arith, ◌+◌, ◌-◌, ◌<◌, length, reverse}
use Rattle.std.specs.Prelude.{slice_get}
use Rattle.std.proofs.lemmas.List.{reverse-reverse}
use Rattle.std.proofs.lemmas.Option.{slice_get_read}
use Rattle.theory.proofs.ListLaws.{append_get}
use Rattle.spent_letters.specs.Stretches.{grown, letters_in}
use Rattle.spent_letters.proofs.Finding.{found}
use Rattle.spent_letters.proofs.spent_letters.SpentLetters.at.Goals as goal

pub returns : goal.returns
returns c =
    let own = c.self.inside in
    let xs = own.stretches.items in
    let s = c.index-stretch.result.now in
    let k = c.stretch_of.result in
    let within = subst (λ l. k < length l) c.as_slice.ensures.value c.stretch_of.ensures.within in
    let here = slice_get_read xs (length xs) k s refl within c.index-stretch.ensures in
    let has = c.stretch_of.ensures.has s (ap (λ l. slice_get l k) c.as_slice.ensures.value ∙ here) in
    let start = c.start.ensures in
    let begins = has.0 in
    let told = ap (λ n. slice_get (grown s.head s.more) (c.args.number - n)) (sym start) ∙ c.at.ensures in
    let letter = found (reverse xs) k (c.args.number - s.start) s c.at.result c.self.invariant.0.whole
    (ap (λ l. slice_get l k) (reverse-reverse xs) ∙ here) told in
    ap (λ l. slice_get l c.args.number) (sym c.self.view_is)
    ∙ append_get (letters_in (reverse xs)) own.tail.items c.args.number c.at.result
    (ap (slice_get (letters_in (reverse xs))) (let t : c.args.number ≡ s.start + (c.args.number - s.start) =
    omega (arith, begins) in t) ∙ letter)

use Rattle.std.proofs.Common.{◌∙◌, sym, ap, arith, reverse}
use Rattle.spent_letters.specs.Stretches.{tells}
use Rattle.spent_letters.proofs.Finding.{last_within}
use Rattle.spent_letters.proofs.Reversing.{ends, last_first, none_last}
use Rattle.spent_letters.proofs.spent_letters.is_told.Goals as goal

pub tells-requires : goal.tells-requires
tells-requires c =
    let few = c.requires.few in
    let within = last_within c.args.stretches.now c.in-Some.stretch.now c.requires.whole
    (sym c.in-Some.ensures.value) in
    omega (arith, few, within)

pub returns-in-Some : goal.returns-in-Some
unfolding tells
returns-in-Some c =
    let e = ends c.args.stretches.now c.in-Some.stretch.now (sym c.in-Some.ensures.value) in
    c.tells.ensures
    ∙ ap (λ ss. tells ss c.args.letter.now) (sym (last_first c.args.stretches.now c.in-Some.stretch.now e))

pub returns-in-None : goal.returns-in-None
unfolding tells
returns-in-None c =
    ap (λ xs. tells (reverse xs) c.args.letter.now) (sym (none_last c.args.stretches.now (sym c.in-None.ensures.value)))

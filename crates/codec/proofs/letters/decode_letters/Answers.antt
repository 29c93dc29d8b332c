use Rattle.std.proofs.Common.{rules, ◌≡◌, ◌++◌, ◌∙◌, ap, sym, length, map, arith}
use Rattle.codec.specs.Codes.{FitEach, Unless, each_code, list_code}
use Rattle.codec.specs.Layers.{behind, letter_code, letters_code, FitsLetter}
use Rattle.codec.specs.declared.fault.DecodeFault.TheVariants.{NoMemory}
use Rattle.codec.proofs.Fronts.{behind_fit, behind_length, packed_fits, parts, same_packed}
use Rattle.spent_letters.specs.Stretches.{packed}
use Rattle.unit_steps.specs.SentLetters.{front, spent_letter}
use Rattle.codec.proofs.letters.decode_letters.Goals as goal

pub returns-in_err-front-clause-err : goal.returns-in_err-front-clause-err
returns-in_err-front-clause-err c =
    let only : Unless letters_code (FitEach FitsLetter) c.args.input.now (c.in_err-front.field-0.0 ≡ NoMemory)
    = λ v rest fits is.
    c.in_err-front.ensures.err (packed (front v)) (list_code letter_code (behind v) rest) (packed_fits v fits) is in
    search (rules, only)

pub returns-in_err-count-clause-err : goal.returns-in_err-count-clause-err
returns-in_err-count-clause-err c =
    let only : Unless letters_code (FitEach FitsLetter) c.args.input.now (c.in_err-count.field-0.0 ≡ NoMemory)
    = λ v rest fits is.
    let first = c.in_ok-front.ensures.ok (packed (front v)) (list_code letter_code (behind v) rest)
    (packed_fits v fits) is in
    c.in_err-count.ensures.err (length (behind v)) (each_code letter_code (behind v) rest)
    (let a = behind_length v in let b = fits.1 in omega (arith, a, b)) (sym first.1) in
    search (rules, only)

pub returns-in_err-decode_each-clause-err : goal.returns-in_err-decode_each-clause-err
returns-in_err-decode_each-clause-err c =
    let only : Unless letters_code (FitEach FitsLetter) c.args.input.now (c.in_err-decode_each.field-0.0 ≡ NoMemory)
    = λ v rest fits is.
    let first = c.in_ok-front.ensures.ok (packed (front v)) (list_code letter_code (behind v) rest)
    (packed_fits v fits) is in
    let count = c.in_ok-count.ensures.ok (length (behind v)) (each_code letter_code (behind v) rest)
    (let a = behind_length v in let b = fits.1 in omega (arith, a, b)) (sym first.1) in
    c.in_err-decode_each.ensures.err (behind v) rest count.0 (behind_fit v fits.0) (sym count.1) in
    search (rules, only)

pub returns-clause-ok : goal.returns-clause-ok
returns-clause-ok c = λ v rest fits is.
    let first = c.in_ok-front.ensures.ok (packed (front v)) (list_code letter_code (behind v) rest)
    (packed_fits v fits) is in
    let count = c.in_ok-count.ensures.ok (length (behind v)) (each_code letter_code (behind v) rest)
    (let a = behind_length v in let b = fits.1 in omega (arith, a, b)) (sym first.1) in
    let others = c.in_ok-decode_each.ensures.ok (behind v) rest count.0 (behind_fit v fits.0) (sym count.1) in (
      sym (parts v)
          ∙ ap (λ xs. map spent_letter xs ++ behind v) (same_packed (front v) c.in_ok-front.front first.0)
          ∙ ap (λ l. l ++ behind v) (sym c.of-letters.ensures)
          ∙ sym others.0,
      others.1,
    )

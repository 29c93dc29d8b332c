-- The letters at the front whose contents are forgotten.
use Rattle.std.proofs.Common.{◌≡◌, refl, sym, ◌∙◌, ap, subst, ℕ, ◌<◌, ◌≤◌, List, [], ◌∷◌, ◌++◌, map}
use Rattle.std.proofs.Common.{arith, length, length-append, reverse}
use Rattle.std.specs.Prelude.{None, Option, Some}
use Rattle.std.proofs.lemmas.List.{length-map, length-reverse, reverse-reverse}
use Rattle.codec.specs.Codes.{AllFit, FitEach}
use Rattle.codec.specs.Layers.{behind, FitParts, FitsLetter, FitsPacked, FitsSpent, FitsStretch}
use Rattle.codec.proofs.Fits.{fit_append, fit_left, fit_right, fit_reverse}
use Rattle.codec.proofs.Stretched.{few_stretches, letters_fit, stretches_fit}
use Rattle.compact.specs.Compact.{CompactLetter, Content}
use Rattle.spent_letters.specs.declared.letter.SpentLetter.{SpentLetter}
use Rattle.spent_letters.specs.Stretches.{letters_in, letters_of, packed}
use Rattle.spent_letters.proofs.Packing.{packed_is, packed_letters}
use Rattle.unit_steps.specs.SentLetters.{front, spent_letter}

whole_one : (source receiver : ℕ) (o : Option Content) (cs : List CompactLetter)
    → map spent_letter (front cs) ++ behind cs ≡ cs
    → let c : CompactLetter = record { source = source; receiver = receiver; content = o } in
    map spent_letter (front (c ∷ cs)) ++ behind (c ∷ cs) ≡ c ∷ cs
unfolding front
whole_one source receiver None cs e =
    ap (λ (l : List CompactLetter). record { source = source; receiver = receiver; content = None } ∷ l) e
whole_one source receiver (Some x) cs e = refl

-- Letters are those at the front and those behind them.
pub parts : (cs : List CompactLetter) → map spent_letter (front cs) ++ behind cs ≡ cs
unfolding front
parts [] = refl
parts (c ∷ cs) = whole_one c.source c.receiver c.content cs (parts cs)

front_one : (source receiver : ℕ) (o : Option Content) (cs : List CompactLetter)
    → source < 256 → receiver < 256 → AllFit FitsSpent (front cs)
    → AllFit FitsSpent (front (record { source = source; receiver = receiver; content = o } ∷ cs))
unfolding front
front_one source receiver None cs a b f = ((a, b), f)
front_one source receiver (Some x) cs a b f = tt

-- Where letters fit, so does what is left of those at the front,
front_fit : (cs : List CompactLetter) → AllFit FitsLetter cs → AllFit FitsSpent (front cs)
unfolding front
front_fit [] a = tt
front_fit (c ∷ cs) a = front_one c.source c.receiver c.content cs a.0.0 a.0.1 (front_fit cs a.1)

spent_fit : (xs : List SpentLetter) → AllFit FitsSpent xs → AllFit FitsLetter (map spent_letter xs)
spent_fit [] a = tt
spent_fit (x ∷ xs) a = ((a.0.0, a.0.1, tt), spent_fit xs a.1)

pub front_length : (cs : List CompactLetter) → length (front cs) ≤ length cs
front_length cs =
    let all = ap length (parts cs) in
    let sum = length-append (map spent_letter (front cs)) (behind cs) in
    let own = length-map (front cs) spent_letter in
    omega (arith, all, sum, own)

-- and what is packed of it.
pub packed_fits : (cs : List CompactLetter) → FitEach FitsLetter cs → FitsPacked (packed (front cs))
packed_fits cs a =
    let p = packed (front cs) in
    let is = packed_is (front cs) in
    let letters = packed_letters (front cs) in
    let fit = subst (AllFit FitsSpent) (sym letters) (front_fit cs a.0) in
    let long = front_length cs in
    let all = ap length letters in
    let sum = length-append (letters_in p.stretches) p.tail in
    let few = a.1 in
    let stretches = few_stretches p.stretches is.whole in
    let turned = length-reverse p.stretches in (
      is,
      (
        (
          fit_reverse FitsStretch p.stretches
              (stretches_fit p.stretches is.whole (fit_left FitsSpent (letters_in p.stretches) p.tail fit)
              (omega (arith, long, all, sum, few))),
          omega (arith, long, all, sum, few, stretches, turned),
        ),
        (fit_right FitsSpent (letters_in p.stretches) p.tail fit, omega (arith, long, all, sum, few)),
      ),
    )

-- And the other way round.
pub all_fit : (cs : List CompactLetter) (xs : List SpentLetter) → xs ≡ front cs → FitParts (packed xs)
    → AllFit FitsLetter (behind cs) → AllFit FitsLetter cs
all_fit cs xs e a b =
    let p = packed xs in
    let stretches = subst (AllFit FitsStretch) (reverse-reverse p.stretches)
    (fit_reverse FitsStretch (reverse p.stretches) a.0.0) in
    let fit = fit_append FitsSpent (letters_in p.stretches) p.tail
    (letters_fit p.stretches (packed_is xs).whole stretches) a.1.0 in
    subst (AllFit FitsLetter) (parts cs)
    (fit_append FitsLetter (map spent_letter (front cs)) (behind cs)
    (spent_fit (front cs) (subst (AllFit FitsSpent) (packed_letters xs ∙ e) fit)) b)

-- The letters behind the front fit too, and are no more than all.
pub behind_fit : (cs : List CompactLetter) → AllFit FitsLetter cs → AllFit FitsLetter (behind cs)
behind_fit cs a =
    fit_right FitsLetter (map spent_letter (front cs)) (behind cs) (subst (AllFit FitsLetter) (sym (parts cs)) a)

pub behind_length : (cs : List CompactLetter) → length (behind cs) ≤ length cs
behind_length cs =
    let all = ap length (parts cs) in
    let sum = length-append (map spent_letter (front cs)) (behind cs) in
    omega (arith, all, sum)

-- Letters that are packed alike are the same.
pub same_packed : (xs ys : List SpentLetter) → packed xs ≡ packed ys → xs ≡ ys
same_packed xs ys e = sym (packed_letters xs) ∙ ap letters_of e ∙ packed_letters ys

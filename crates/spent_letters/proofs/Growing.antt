-- The letters of one stretch.
use Rattle.std.proofs.Common.{◌≡◌, ◌∙◌, sym, ap, ℕ, zero, suc, ◌+◌, ◌%◌, ◌<◌, ◌≤◌, List, [], ◌∷◌, ◌++◌}
use Rattle.std.proofs.Common.{length, length-append, arith}
use native.Mathlib.Decide.{dec_lt}
use Rattle.std.specs.Prelude.{Some, slice_get}
use Rattle.std.specs.Option.{option_to_list}
use Rattle.theory.proofs.ListLaws.{append_get, append_get_last}
use Rattle.spent_letters.specs.declared.letter.SpentLetter.{SpentLetter}
use Rattle.spent_letters.specs.declared.stretch.TheConstants.{HEAD}
use Rattle.spent_letters.specs.Stretches.{after, grown, period}
use Rattle.spent_letters.proofs.Periods.{after_is}

-- how many there are
pub grown_length : (head : List SpentLetter) (more : ℕ) → length head ≡ HEAD → length (grown head more) ≡ HEAD + more
unfolding grown
grown_length head zero e = e
grown_length head (suc more) e =
    length-append (grown head more) (option_to_list (after head more))
    ∙ ap (λ n. n + length (option_to_list (after head more))) (grown_length head more e)
    ∙ ap (λ o. HEAD + more + length (option_to_list o)) (after_is head more e)
    ∙ (let t : HEAD + more + 1 ≡ HEAD + suc more = omega (arith) in t)

-- the first ones are those in full
pub grown_head : (head : List SpentLetter) (more i : ℕ) (x : SpentLetter) → slice_get head i ≡ Some x
    → slice_get (grown head more) i ≡ Some x
unfolding grown
grown_head head zero i x e = e
grown_head head (suc more) i x e =
    append_get (grown head more) (option_to_list (after head more)) i x (grown_head head more i x e)

-- each later one is as the one in full that a number of periods lie before it
pub grown_more : (head : List SpentLetter) (more i : ℕ) (x : SpentLetter) → length head ≡ HEAD → HEAD ≤ i
    → i < HEAD + more → slice_get head (i % period head) ≡ Some x → slice_get (grown head more) i ≡ Some x
unfolding grown
grown_more head zero i x e above below is = absurd (omega (arith, above, below))
grown_more head (suc more) i x e above below is = elim (dec_lt i (HEAD + more)) [
  | yes h ↦ append_get (grown head more) (option_to_list (after head more)) i x (grown_more head more i x e above h is)
  | no h ↦
      let last : i ≡ HEAD + more = omega (arith, h, below) in
      let next : after head more ≡ Some x = ap (λ n. slice_get head (n % period head)) (sym last) ∙ is in
      ap (λ o. slice_get (grown head more ++ option_to_list o) i) next
      ∙ ap (slice_get (grown head more ++ x ∷ [])) (last ∙ sym (grown_length head more e))
      ∙ append_get_last (grown head more) x
]

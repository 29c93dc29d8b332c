-- A letter that is taken.
use Rattle.std.proofs.Common.{◌≡◌, refl, ◌∙◌, ap, ℕ, ◌<◌, List, length, arith, nat_lt, true}
use Rattle.std.proofs.lemmas.Bool.Decides.{nat_tests}
use Rattle.std.specs.Prelude.{Some, Ok, slice_get}
use Rattle.model.specs.FailureFree.{Network, Worker, next_text, takes_letter, without_next, works_on}
use Rattle.model.specs.Handler.{Meaning}
use Rattle.model.specs.declared.names.Source.TheVariants.{Unit as FromUnit}
use Rattle.model.proofs.Places.{get_below}

-- a unit that is there takes the next letter of another that is there
pub letter_taken : {S : Type 0} (M : Meaning S) (net rest next : Network S) (to source : ℕ) (text : List ℕ)
    → to < length net.workers → source < length net.workers
    → rest ≡ record net { packets = without_next source to net.packets } → next_text source to net.packets ≡ Some text
    → ((a : Worker S) → slice_get rest.workers to ≡ Some a → next ≡ works_on M rest a (FromUnit source) text)
    → takes_letter M net to source (slice_get net.workers to) ≡ Ok next
letter_taken M net rest next to source text within other is has works =
    let at = get_below net.workers to within in
    let there : nat_lt source (length net.workers) ≡ true = grind (arith, nat_tests) in
    let same : slice_get rest.workers to ≡ Some at.0 = rw (is) at.1 in
    let done : next
    ≡ works_on M (record net { packets = without_next source to net.packets }) at.0 (FromUnit source) text =
    works at.0 same ∙ ap (λ n. works_on M n at.0 (FromUnit source) text) is in
    rw (at.1, there, has, done) refl

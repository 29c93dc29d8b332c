-- The first refusal of several lists of tests.
use Rattle.std.proofs.Common.{◌≡◌, sym, ◌∙◌, ap, Bool, List, ◌++◌}
use Rattle.std.specs.Prelude.{Some, None}
use Rattle.model.specs.declared.refusals.Refusal.{Refusal}
use Rattle.model.specs.Steps.{first_refusal}
use Rattle.compact.specs.Steps.{or_next}
use Rattle.compact.proofs.Receipts.{refusal_append}

-- one that the first list has is that of both; where it has none, it is that of the second
pub refused_by_both : (tests rest : List (Bool × Refusal))
    → ((r : Refusal) → Some r ≡ first_refusal tests → Some r ≡ first_refusal (tests ++ rest))
    × (None ≡ first_refusal tests → first_refusal rest ≡ first_refusal (tests ++ rest))
refused_by_both tests rest = (
  λ r e. ap (λ o. or_next o (first_refusal rest)) e ∙ sym (refusal_append tests rest),
  λ e. ap (λ o. or_next o (first_refusal rest)) e ∙ sym (refusal_append tests rest),
)

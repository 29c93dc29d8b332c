use Rattle.std.proofs.Common.{ap, sym, ◌∙◌, List, ℕ, length}
use Rattle.std.proofs.lemmas.List.{length-replicate}
use Rattle.std.specs.Map.{lookup}
use Rattle.std.specs.Prelude.{bytes_eq, None}
use Rattle.shared_log.specs.Index.{of_tenant}
use Rattle.shared_log.specs.Logged.{places_from}
use Rattle.shared_log.proofs.FilledLaws.{places_vacant}
use Rattle.shared_log.proofs.shared_log.SharedLog+MemoryStore.vacant.Goals as goal

pub invariant_of-result : goal.invariant_of-result
invariant_of-result c = (
  sym (ap length c.vacant.ensures ∙ length-replicate c.args.count None),
  λ tenant unit.
      ap (λ (es : List (List ℕ × List (List ℕ))). of_tenant (lookup (bytes_eq tenant) es) unit) c.new.ensures.empty
      ∙ sym (ap (places_from tenant unit 0) c.vacant.ensures ∙ places_vacant tenant unit 0 c.args.count),
)

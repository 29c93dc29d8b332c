-- The first packet from one unit to another, by its place.
use Rattle.std.proofs.Common.{◌≡◌, refl, sym, ◌∙◌, ℕ, ◌+◌, ◌<◌, true, List, ◌++◌, length, get_or, take, drop, add-one}
use Rattle.std.proofs.lemmas.List.{get_or_default, drop_more}
use Rattle.model.specs.FailureFree.{Packet, is_between, next_text, without_next}
use Rattle.audit.specs.Working.{IsFirst}

module _ (source target : ℕ) (packets : List Packet) (i : ℕ) where
  -- Where none was found before, the packet at a place that is between two units is the first.
  pub first_here : (p : Packet) → i < length packets → p ≡ get_or packets i p → true ≡ is_between source target p
      → next_text source target (drop i packets) ≡ next_text source target packets
      → take i packets ++ without_next source target (drop i packets) ≡ without_next source target packets
      → IsFirst source target packets i
  first_here p h e t text rest = (
    h,
    (λ q f. sym text ∙ rw (drop_more packets i q h, ← f) (let g : q ≡ p = f ∙ same q ∙ sym e in rw (g, ← t) refl)),
    sym rest ∙ rw (drop_more packets i p h, ← e, ← t, add-one) refl,
  )
    where
      same : (q : Packet) → get_or packets i q ≡ get_or packets i p
      same q = get_or_default packets i q p h

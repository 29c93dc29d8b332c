-- What is a tenant's own is in the one part that it is dealt to.
use Rattle.std.proofs.Common.{◌≡◌, ℕ, List, [], ◌∷◌, ◌++◌, map, cond, sym, ap, subst, ◌∙◌, append-nil}
use Rattle.std.specs.Prelude.{Option, ◌==◌}
use Rattle.std.proofs.lemmas.Bool.{eq-eqb, ne_eqb}
use Rattle.std.proofs.lemmas.List.Elements.{filter-append}
use Rattle.model.specs.Addresses.{addressed}
use Rattle.model.specs.Alone.{Event, alone}
use Rattle.model.specs.Handler.{Meaning}
use Rattle.model.specs.History.{names, own, pairs, replies_to, IsLegal}
use Rattle.model.specs.World.{World}
use Rattle.model.specs.declared.records.Record.{Record}
use Rattle.model.specs.declared.replies.Entry.{Entry}
use Rattle.model.specs.declared.replies.Said.{Said}
use Rattle.model.specs.declared.steps.Step.{Step}
use Rattle.book.specs.History.{IsHonestAfter, IsHonestAt, entries_of, world_of}
use Rattle.book.proofs.Replays.{event_of_pair, name_of, pair_of, same_name}
use Rattle.dealing.specs.Dealing.{part_of}
use Rattle.dealing.proofs.Lists.{filter-map, filter-within}

module _ (deal : List ℕ → ℕ) where
  -- the tenant's entries are those of its part
  entries_of-part : (tenant : List ℕ) (history : List Entry)
      → entries_of tenant (part_of deal (deal tenant) history) ≡ entries_of tenant history
  entries_of-part tenant history =
      filter-within (λ (e : Entry). names tenant e.step) (λ (e : Entry). deal (name_of e) == deal tenant)
      (λ e is. eq-eqb _ _ (ap deal (sym (same_name tenant (name_of e) is)))) history

  -- so are the pairs, which are those of its entries
  own-entries : (tenant : List ℕ) (history : List Entry)
      → own tenant (pairs history) ≡ map event_of_pair (map pair_of (entries_of tenant history))
  own-entries tenant history =
      ap (map event_of_pair) (filter-map (λ (p : Step × Said). names tenant p.0) pair_of history)

  pub own-part : (tenant : List ℕ) (history : List Entry)
      → own tenant (pairs (part_of deal (deal tenant) history)) ≡ own tenant (pairs history)
  own-part tenant history =
      own-entries tenant (part_of deal (deal tenant) history)
      ∙ ap (λ (l : List Entry). map event_of_pair (map pair_of l)) (entries_of-part tenant history)
      ∙ sym (own-entries tenant history)

  pub replies_to-part : (tenant : List ℕ) (history : List Entry)
      → replies_to tenant (part_of deal (deal tenant) history) ≡ replies_to tenant history
  replies_to-part tenant history = ap (map (λ (e : Entry). e.reply)) (entries_of-part tenant history)

  -- one entry more, in its part and in another
  pub part-here : (i : ℕ) (history : List Entry) (e : Entry)
      → deal (name_of e) ≡ i → part_of deal i (history ++ e ∷ []) ≡ part_of deal i history ++ e ∷ []
  part-here i history e is =
      filter-append (λ (x : Entry). deal (name_of x) == i) history (e ∷ [])
      ∙ ap (λ b. part_of deal i history ++ cond b (e ∷ []) []) (eq-eqb _ _ is)

  -- An entry whose tenant is dealt elsewhere leaves a part of the history as it was.
  pub part-apart : (i : ℕ) (history : List Entry) (e : Entry)
      → (deal (name_of e) ≡ i → ⊥) → part_of deal i (history ++ e ∷ []) ≡ part_of deal i history
  part-apart i history e apart =
      filter-append (λ (x : Entry). deal (name_of x) == i) history (e ∷ [])
      ∙ ap (λ b. part_of deal i history ++ cond b (e ∷ []) []) (ne_eqb _ _ apart)
      ∙ append-nil (part_of deal i history)

  module _ {S : Type 0} (M : Meaning S) where
    world_of-part : (tenant : List ℕ) (history : List Entry)
        → world_of M tenant (part_of deal (deal tenant) history) ≡ world_of M tenant history
    world_of-part tenant history = ap (λ (events : List Event). (alone M events).world) (own-part tenant history)

    -- a history is legal where each part is
    pub legal-parts : (history : List Entry)
        → ((tenant : List ℕ) → IsLegal M (part_of deal (deal tenant) history)) → IsLegal M history
    legal-parts history each tenant =
        sym (replies_to-part tenant history)
        ∙ each tenant tenant
        ∙ ap (λ (events : List Event). (alone M events).replies) (own-part tenant history)

    -- what is honest after a part is honest after the whole
    pub honest-part : (history : List Entry) (e : Entry) (grown : List Record)
        → IsHonestAfter M (part_of deal (deal (name_of e)) history) e grown → IsHonestAfter M history e grown
    honest-part history e grown honest =
        subst (λ (w : Option World). IsHonestAt M (name_of e) w (addressed e.step).1 e.said grown)
        (world_of-part (name_of e) history) honest

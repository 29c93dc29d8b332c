-- One more step of a run.
use Rattle.std.proofs.Common.{◌≡◌, ℕ, ◌+◌, ◌<◌, List, [], ◌∷◌, ◌++◌, length, drop, get_or, refl, sym, subst}
use Rattle.std.proofs.Common.{append_assoc, add-one, drop-cons}
use Rattle.std.proofs.lemmas.List.{append-nil}
use Rattle.book.specs.Entries.{Ledger, IsEntered}
use Rattle.book.specs.History.{Ran}
use Rattle.model.specs.declared.steps.Step.{Step}
use Rattle.model.specs.declared.replies.Reply.{Reply}
use Rattle.model.specs.declared.replies.Who.TheVariants.{Caller}

module _ (start : Ledger) (steps : List Step) where
  -- what is left is carried on
  abbrev pub Leads : Ledger → List Step → List Reply → Type 0
  Leads now left done = (rest : List Reply) (after : Ledger)
      → Ran now left rest after → Ran start steps (done ++ rest) after

  -- A run goes on by one more step that is entered, with its reply.
  pub ran_next : (now next : Ledger) (i : ℕ) (d : Step) (done : List Reply) (r : Reply) → i < length steps
      → IsEntered now Caller (get_or steps i d) r next
      → Leads now (drop i steps) done → Leads next (drop (i + 1) steps) (done ++ r ∷ [])
  ran_next now next i d done r h entered inv rest after ran =
      let split : drop i steps ≡ get_or steps i d ∷ drop (i + 1) steps = rw add-one (drop-cons steps i d h) in
      subst (λ x. Ran start steps x after) (sym (append_assoc done (r ∷ []) rest))
      (inv (r ∷ rest) after (subst (λ ss. Ran now ss (r ∷ rest) after) (sym split) (next, entered, ran)))

  -- Where no step is left, all steps of the run were entered with the replies so far.
  pub ran_end : (now : Ledger) (left : List Step) (done : List Reply)
      → left ≡ [] → Leads now left done → Ran start steps done now
  ran_end now left done none inv =
      subst (λ x. Ran start steps x now)
      (append-nil done) (inv [] now (subst (λ ss. Ran now ss [] now) (sym none) refl))

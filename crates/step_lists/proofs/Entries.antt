-- The history of a book that did a list of steps.
use Rattle.std.proofs.Common.{◌≡◌, inl, inr, refl, sym, ap, subst, ◌∙◌, List, [], ◌∷◌, ◌++◌, map, All, append_assoc}
use Rattle.std.proofs.lemmas.List.{append-nil}
use Rattle.std.proofs.lemmas.List.Elements.{All-head, All-tail}
use Rattle.model.specs.declared.replies.Entry.{Entry}
use Rattle.model.specs.declared.refusals.Refusal.TheVariants.{Memory}
use Rattle.model.specs.declared.replies.Reply.{Reply}
use Rattle.model.specs.declared.replies.Reply.TheVariants.{Refused, Stopped}
use Rattle.model.specs.declared.replies.Said.{Said}
use Rattle.model.specs.declared.replies.Who.TheVariants.{Caller}
use Rattle.model.specs.declared.steps.Step.{Step}
use Rattle.model.specs.declared.steps.Step.TheVariants.{Open, Join, Post, Deliver, Flush, Checkpoint, Kill, Restart}
use Rattle.model.specs.declared.steps.Step.TheVariants.{Notice, Release, Status}
use Rattle.book.specs.Entries.{IsEntered, Ledger, memory_reply}
use Rattle.book.specs.History.{Ran}

abbrev pub step_of : Entry → Step
step_of e = e.step

abbrev pub reply_of : Entry → Reply
reply_of e = e.reply

abbrev entry : Step → Said → Reply → Entry
entry s said r = record { who = Caller; step = s; said = said; reply = r }

-- of replies none of which tells of memory that was missing
module _ (P : Reply → Type 0) (refused : P (Refused Memory) → ⊥) (stopped : P (Stopped 0 Memory) → ⊥) where
  -- a reply for want of memory is none of them
  none : (s : Step) → P (memory_reply s) → ⊥
  none (Open tenant kinds quota optimism) p = refused p
  none (Join tenant kind) p = refused p
  none (Post unit number tenant text) p = refused p
  none (Deliver tenant letter) p = refused p
  none (Flush tenant unit) p = stopped p
  none (Checkpoint tenant unit) p = refused p
  none (Kill tenant unit) p = refused p
  none (Restart tenant unit) p = refused p
  none (Notice tenant unit) p = refused p
  none (Release tenant unit) p = refused p
  none (Status tenant unit) p = refused p

  -- so a step with such a reply was entered
  one_more : (before mid : Ledger) (s : Step) (r : Reply) → P r → IsEntered before Caller s r mid
      → (said : Said) × (mid.history ≡ before.history ++ entry s said r ∷ [])
  one_more before mid s r p (inl added) = (added.0, added.1)
  one_more before mid s r p (inr forgone) = absurd (none s (subst P forgone.0 p))

  -- and so was the whole list
  pub entered : (before after : Ledger) (steps : List Step) (replies : List Reply)
      → Ran before steps replies after → All P replies
      → (entries : List Entry) × (after.history ≡ before.history ++ entries)
      × (map step_of entries ≡ steps) × (map reply_of entries ≡ replies)
  entered before after [] [] ran p =
      ([], ap (λ (l : Ledger). l.history) ran ∙ sym (append-nil before.history), refl, refl)
  entered before after [] (r ∷ replies) ran p = absurd ran
  entered before after (s ∷ steps) [] ran p = absurd ran
  entered before after (s ∷ steps) (r ∷ replies) ran p =
      let here = one_more before ran.0 s r (All-head P r replies p) ran.1 in
      let rest = entered ran.0 after steps replies ran.2 (All-tail P r replies p) in (
        entry s here.0 r ∷ rest.0,
        rest.1 ∙ ap (λ (h : List Entry). h ++ rest.0) here.1
            ∙ append_assoc before.history (entry s here.0 r ∷ []) rest.0,
        ap (λ (l : List Step). s ∷ l) rest.2,
        ap (λ (l : List Reply). r ∷ l) rest.3,
      )

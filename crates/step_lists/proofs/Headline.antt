-- The headline, of lists of steps.
use Rattle.std.proofs.Common.{◌≡◌, ℕ, List, [], ◌++◌, map, refl, sym, ap, subst, ◌∙◌, All}
use Rattle.std.specs.Prelude.{None}
use Rattle.model.specs.Alone.{Course, alone}
use Rattle.model.specs.Handler.{Meaning}
use Rattle.model.specs.History.{IsLegal, own, pairs}
use Rattle.model.specs.declared.records.Record.{Record}
use Rattle.model.specs.declared.replies.Entry.{Entry}
use Rattle.model.specs.declared.refusals.Refusal.TheVariants.{Memory}
use Rattle.model.specs.declared.replies.Reply.{Reply}
use Rattle.model.specs.declared.replies.Reply.TheVariants.{Refused, Stopped}
use Rattle.model.specs.declared.steps.Step.{Step}
use Rattle.book.specs.Certificates.{AreOne}
use Rattle.book.specs.Entries.{Ledger}
use Rattle.book.specs.History.{Ran, RecordedAfter, released_at, table_at}
use Rattle.book.proofs.Certified.{headline}
use Rattle.journal.specs.GoingOn.{IsPromise}
use Rattle.step_lists.specs.Lists.{FoundMemory, HeadlineOfAnswers, HeadlineOfLists, IsWholly, own_steps}
use Rattle.step_lists.proofs.Entries.{entered, reply_of, step_of}
use Rattle.step_lists.proofs.Tenants.{honest_from, own_events, own_promises, same_course, told_step}

module _ {S : Type 0} (M : Meaning S) where
  -- histories with the same own steps
  module _ (t : List ℕ) (one other : List Entry)
      (records records' : List Record) (legal : IsLegal M one) (legal' : IsLegal M other)
      (recorded : RecordedAfter M [] one records) (recorded' : RecordedAfter M [] other records')
      (steps : own_steps t (map step_of one) ≡ own_steps t (map step_of other))
      (p : All IsPromise (map reply_of one)) (q : All IsPromise (map reply_of other)) where
    courses : alone M (own t (pairs one)) ≡ alone M (own t (pairs other))
    courses = same_course M t None (own t (pairs one))
        (own t (pairs other)) (honest_from M t [] one records recorded) (honest_from M t [] other records' recorded')
        (own_events t one ∙ ap (map told_step) steps ∙ sym (own_events t other))
        (subst (All IsPromise) (legal t) (own_promises t one p))
        (subst (All IsPromise) (legal' t) (own_promises t other q))

    pub in_common : AreOne M t one other
    in_common =
        let whole = headline M t one one legal legal refl in
        record {
          replies = legal t ∙ ap (λ (c : Course). c.replies) courses ∙ sym (legal' t);
          rollbacks = ap (λ (c : Course). table_at c.world) courses;
          released = λ unit. ap (λ (c : Course). released_at c.world unit) courses;
          certified = whole.certified;
          lasting = whole.lasting;
        }

  -- A new book's history is the list, where no reply tells of memory that was missing.
  wholly : (P : Reply → Type 0) → (P (Refused Memory) → ⊥) → (P (Stopped 0 Memory) → ⊥)
      → (steps : List Step) (replies : List Reply) (start after : Ledger)
      → start.history ≡ [] → Ran start steps replies after → All P replies → IsWholly steps replies after.history
  wholly P refused stopped steps replies start after empty ran all_so =
      let e = entered P refused stopped start after steps replies ran all_so in
      let all : after.history ≡ e.0 = e.1 ∙ ap (λ (h : List Entry). h ++ e.0) empty in
      record { steps = ap (map step_of) all ∙ e.2; replies = ap (map reply_of) all ∙ e.3 }

  -- Runs of two lists that agree on a tenant's own steps come out the same for that tenant.
  pub headline_of_lists : HeadlineOfLists M
  headline_of_lists tenant steps steps' replies replies' one other run run' same =
      let w = wholly IsPromise (λ p. p) (λ p. p) steps replies run.start one run.empty run.ran run.promises in
      let w' =
      wholly IsPromise (λ p. p) (λ p. p) steps' replies' run'.start other run'.empty run'.ran run'.promises in (
        w,
        w',
        in_common tenant one.history other.history run.book.recorded.0
            run'.book.recorded.0 run.book.legal run'.book.legal run.book.recorded.1 run'.book.recorded.1
            (ap (own_steps tenant) w.steps ∙ same ∙ sym (ap (own_steps tenant) w'.steps))
            (subst (All IsPromise) (sym w.replies) run.promises) (subst (All IsPromise) (sym w'.replies) run'.promises),
      )

  -- Runs that agree on a tenant's own steps and on what the store said to each come out the same for that tenant.
  pub headline_of_answers : HeadlineOfAnswers M
  headline_of_answers tenant steps steps' replies replies' one other run run' same = (
    wholly FoundMemory (λ p. p) (λ p. p) steps replies run.start one run.empty run.ran run.memory,
    wholly FoundMemory (λ p. p) (λ p. p) steps' replies' run'.start other run'.empty run'.ran run'.memory,
    headline M tenant one.history other.history run.book.legal run'.book.legal same,
  )

-- Lines that are served twice.
use Rattle.std.proofs.Common.{◌≡◌, ℕ, List, [], ◌∷◌, ◌++◌, length, map, take, drop, refl, sym, ap, subst, ◌∙◌, All}
use Rattle.std.proofs.Common.{Option, Some, None, arith}
use Rattle.std.proofs.lemmas.List.Elements.{All-nil, All-cons, All-head, All-tail}
use Rattle.std.proofs.Math.Seq.{drop-append_seam, take-append_seam}
use Rattle.model.specs.Handler.{Meaning}
use Rattle.model.specs.declared.replies.Entry.{Entry}
use Rattle.model.specs.declared.replies.Reply.{Reply}
use Rattle.model.specs.declared.replies.Who.{Who}
use Rattle.model.specs.declared.steps.Step.{Step}
use Rattle.book.specs.Entries.{Ledger}
use Rattle.lines.specs.Serving.{line_step, Serves, IsRemembered, told, entered_before, entered, IsBadOr, AreReplies}
use Rattle.lines.specs.Serving.{EntersEach}
use Rattle.lines.proofs.Runs.{enters_each}
use Rattle.journal.specs.GoingOn.{IsPromise, IsRun, Repeats, GoesOn}
use Rattle.journal.proofs.Histories.{same_history, step_of, reply_of}

abbrev Told : Type 0
Told = Who × Step × Reply

abbrev step_told : Told → Step
step_told x = x.1

abbrev reply_told : Told → Reply
reply_told x = x.2

told-steps : (entries : List Entry) → map step_told (map told entries) ≡ map step_of entries
told-steps [] = refl
told-steps (e ∷ entries) = ap (λ xs. e.step ∷ xs) (told-steps entries)

told-replies : (entries : List Entry) → map reply_told (map told entries) ≡ map reply_of entries
told-replies [] = refl
told-replies (e ∷ entries) = ap (λ xs. e.reply ∷ xs) (told-replies entries)

-- a promise is no reply for want of memory
remembered : (reply : Reply) → IsPromise reply → IsRemembered reply
remembered reply p = (λ is. subst IsPromise is p, λ is. subst IsPromise is p)

all_remembered : (replies : List Reply) → All IsPromise replies → All IsRemembered replies
all_remembered [] p = All-nil IsRemembered
all_remembered (r ∷ rs) p = All-cons
    IsRemembered r rs (remembered r (All-head IsPromise r rs p)) (all_remembered rs (All-tail IsPromise r rs p))

-- ---- one line

steps_before : (o : Option Step) (r r' : Reply) (xs ys : List Told) → map step_told xs ≡ map step_told ys
    → map step_told (entered_before o r xs) ≡ map step_told (entered_before o r' ys)
steps_before None r r' xs ys p = p
steps_before (Some s) r r' xs ys p = ap (λ l. s ∷ l) p

promises_before : (o : Option Step) (r : Reply) (xs : List Told)
    → IsPromise r → All IsPromise (map reply_told xs) → All IsPromise (map reply_told (entered_before o r xs))
promises_before None r xs p ps = ps
promises_before (Some s) r xs p ps = All-cons IsPromise r (map reply_told xs) p ps

same_before : (o : Option Step) (r r' : Reply) (xs ys : List Told) → IsBadOr o r → IsBadOr o r'
    → map reply_told (entered_before o r xs) ≡ map reply_told (entered_before o r' ys)
    → (r ≡ r') × (map reply_told xs ≡ map reply_told ys)
same_before None r r' xs ys bad bad' p = (bad ∙ sym bad', p)
same_before (Some s) r r' xs ys bad bad' p = (cc, cc)

-- ---- all lines

entered-steps : (lines : List (List ℕ)) (rs rs' : List Reply) → AreReplies lines rs → AreReplies lines rs'
    → map step_told (entered lines rs) ≡ map step_told (entered lines rs')
entered-steps [] rs rs' p q = refl
entered-steps (l ∷ ls) [] rs' p q = absurd p
entered-steps (l ∷ ls) (r ∷ rs) [] p q = absurd q
entered-steps (l ∷ ls) (r ∷ rs) (r' ∷ rs') p q = steps_before (line_step l) r r' _ _ (entered-steps ls rs rs' p.1 q.1)

entered-promises : (lines : List (List ℕ)) (rs : List Reply)
    → All IsPromise rs → All IsPromise (map reply_told (entered lines rs))
entered-promises [] rs p = All-nil IsPromise
entered-promises (l ∷ ls) [] p = All-nil IsPromise
entered-promises (l ∷ ls) (r ∷ rs) p =
    promises_before (line_step l)
    r (entered ls rs) (All-head IsPromise r rs p) (entered-promises ls rs (All-tail IsPromise r rs p))

entered-replies : (lines : List (List ℕ)) (rs rs' : List Reply) → AreReplies lines rs → AreReplies lines rs'
    → map reply_told (entered lines rs) ≡ map reply_told (entered lines rs') → rs ≡ rs'
entered-replies [] rs rs' p q same = p ∙ sym q
entered-replies (l ∷ ls) [] rs' p q same = absurd p
entered-replies (l ∷ ls) (r ∷ rs) [] p q same = absurd q
entered-replies (l ∷ ls) (r ∷ rs) (r' ∷ rs') p q same =
    let both = same_before (line_step l) r r' (entered ls rs) (entered ls rs') p.0 q.0 same in
    let others = entered-replies ls rs rs' p.1 q.1 both.1 in
    λ i. both.0 i ∷ others i

-- ---- one after the other

Serves-append : (first second : List (List ℕ)) (old mid new : Ledger) (rs rs' : List Reply)
    → Serves first old rs mid → Serves second mid rs' new
    → Serves (first ++ second) old (rs ++ rs') new
Serves-append [] second old mid new rs rs' p q =
    subst (λ x. Serves second old (x ++ rs') new) (sym p.0) (subst (λ m. Serves second m rs' new) p.1 q)
Serves-append (l ∷ ls) second old mid new rs rs' p q =
    (p.0, p.1 ++ rs', p.2, ap (λ x. x ++ rs') p.3, p.4, Serves-append ls second p.2 mid new p.1 rs' p.5 q)

Serves-length : (lines : List (List ℕ)) (old new : Ledger) (rs : List Reply)
    → Serves lines old rs new → length rs ≡ length lines
Serves-length [] old new rs p = ap length p.0
Serves-length (l ∷ ls) old new rs p = omega (arith, ap length p.3, Serves-length ls p.2 new p.1 p.5)

module _ {S : Type 0} (M : Meaning S) where
  -- the entries of a run of promises, which are all of its history
  module _ (lines : List (List ℕ)) (replies : List Reply) (new : Ledger) (run : IsRun M lines replies new) where
    each : EntersEach lines run.start replies new
    each = enters_each lines run.start new replies run.served (all_remembered replies run.promises)

    history_is : new.history ≡ each.1
    history_is = each.2 ∙ ap (λ h. h ++ each.1) run.empty

    steps_are : map step_of new.history ≡ map step_told (entered lines replies)
    steps_are = ap (map step_of) history_is ∙ sym (told-steps each.1) ∙ ap (map step_told) each.3

    replies_are : map reply_of new.history ≡ map reply_told (entered lines replies)
    replies_are = ap (map reply_of) history_is ∙ sym (told-replies each.1) ∙ ap (map reply_told) each.3

    all_promises : All IsPromise (map reply_of new.history)
    all_promises = subst (All IsPromise) (sym replies_are) (entered-promises lines replies run.promises)

  -- Two runs on the same lines give the same promises.
  pub repeats : Repeats M
  repeats lines one other new new' run run' =
      let answered = (each lines one new run).0 in
      let answered' = (each lines other new' run').0 in
      let steps = steps_are lines one new run
      ∙ entered-steps lines one other answered answered' ∙ sym (steps_are lines other new' run') in
      let same = same_history M
      new.history new'.history run.book.recorded.0 run'.book.recorded.0 run.book.legal run'.book.legal
      run.book.recorded.1 run'.book.recorded.1
      steps (all_promises lines one new run) (all_promises lines other new' run') in
      entered-replies lines one other answered answered' (sym (replies_are lines one new run)
      ∙ same ∙ replies_are lines other new' run')

  -- A new book that is served lines in two parts replies to each as one served the whole does.
  pub goes_on : GoesOn M
  goes_on first second start mid new new' seen missed all empty served served' book promises whole =
      let run : IsRun M (first ++ second) (seen ++ missed) new = record {
        start = start;
        empty = empty;
        served = Serves-append first second start mid new seen missed served served';
        book = book;
        promises = promises;
      } in
      let same : seen ++ missed ≡ all = repeats (first ++ second) (seen ++ missed) all new new' run whole in
      let long : length seen ≡ length first = Serves-length first start mid seen served in (
        sym (ap (λ n. drop n (seen ++ missed)) (sym long) ∙ drop-append_seam seen missed)
            ∙ ap (drop (length first)) same,
        sym (ap (λ n. take n (seen ++ missed)) (sym long) ∙ take-append_seam seen missed)
            ∙ ap (take (length first)) same,
      )

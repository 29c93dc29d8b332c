-- Two histories of the same steps, whose replies are promises, have the same replies.
use Rattle.std.proofs.Common.{◌≡◌, ℕ, List, [], ◌∷◌, ◌++◌, map, Bool, true, false, cond, refl, sym, ap, subst, ◌∙◌, All}
use Rattle.std.specs.Prelude.{Option, bytes_eq}
use Rattle.std.specs.List.{filter}
use Rattle.std.proofs.lemmas.Slice.Eq.{bytes_eq-Decides}
use Rattle.std.proofs.lemmas.List.Elements.{All-head, All-tail}
use Rattle.std.proofs.lemmas.List.{append-nil}
use Rattle.model.specs.Addresses.{addressed}
use Rattle.model.specs.Alone.{Event, alone, course_from, step}
use Rattle.model.specs.Handler.{Meaning}
use Rattle.model.specs.History.{names, own, pairs, replies_to, IsLegal}
use Rattle.model.specs.Steps.{Outcome}
use Rattle.model.specs.World.{World}
use Rattle.model.specs.declared.records.Record.{Record}
use Rattle.model.specs.declared.replies.Entry.{Entry}
use Rattle.model.specs.declared.replies.Reply.{Reply}
use Rattle.model.specs.declared.replies.Said.{Said}
use Rattle.model.specs.declared.steps.Step.{Step}
use Rattle.book.specs.History.{world_of, IsHonestAt, IsHonestAfter, RecordedAfter}
use Rattle.journal.specs.GoingOn.{IsPromise}
use Rattle.journal.proofs.Outcomes.{same_outcome}
use Rattle.book.proofs.Replays.{event_of, event_of_pair, name_of, own-push, pair_of, same_name, world_of-named}

abbrev pub step_of : Entry → Step
step_of e = e.step

abbrev pub reply_of : Entry → Reply
reply_of e = e.reply

-- ---- one more entry, for a tenant

is_own_name : (t : List ℕ) → bytes_eq t t ≡ true
is_own_name t = (bytes_eq-Decides t t).1 refl

module _ {S : Type 0} (M : Meaning S) where
  world_of-apart : (t : List ℕ) (h : List Entry) (e : Entry)
      → names t e.step ≡ false → world_of M t (h ++ e ∷ []) ≡ world_of M t h
  world_of-apart t h e is =
      ap (λ (events : List Event). (alone M events).world)
      (own-push t h e ∙ ap (λ b. own t (pairs h) ++ map event_of_pair (cond b (pair_of e ∷ []) [])) is
      ∙ append-nil (own t (pairs h)))

  -- ---- replies, from some entries on

  -- to each tenant the replies are those that it gets alone from its world after the entries before
  abbrev LegalAfter : List Entry → List Entry → Type 0
  LegalAfter before rest = (t : List ℕ)
      → replies_to t rest ≡ (course_from M (world_of M t before) (own t (pairs rest))).replies

  heads : (x y : Reply) (xs ys : List Reply) → x ∷ xs ≡ y ∷ ys → (x ≡ y) × (xs ≡ ys)
  heads x y xs ys p = (cc, cc)

  -- the replies to a tenant that is named
  legal-head : (t : List ℕ) (before rest : List Entry) (e : Entry)
      → names t e.step ≡ true → LegalAfter before (e ∷ rest)
      → (e.reply ≡ (step M (world_of M t before) (event_of e)).reply)
      × (replies_to
      t rest ≡ (course_from M (step M (world_of M t before) (event_of e)).world (own t (pairs rest))).replies)
  legal-head t before rest e is legal =
      let others = filter (λ (x : Entry). names t x.step) rest in
      let others' = filter (λ (p : Step × Said). names t p.0) (pairs rest) in
      let w = world_of M t before in
      heads _ _ _ _
      (sym (ap (λ b. map reply_of (cond b (e ∷ others) others)) is)
      ∙ legal t
      ∙ ap (λ b. (course_from M w (map event_of_pair (cond b (pair_of e ∷ others') others'))).replies) is)

  legal-apart : (t : List ℕ) (before rest : List Entry) (e : Entry)
      → names t e.step ≡ false → LegalAfter before (e ∷ rest)
      → replies_to t rest ≡ (course_from M (world_of M t before) (own t (pairs rest))).replies
  legal-apart t before rest e is legal =
      let others = filter (λ (x : Entry). names t x.step) rest in
      let others' = filter (λ (p : Step × Said). names t p.0) (pairs rest) in
      let w = world_of M t before in
      sym (ap (λ b. map reply_of (cond b (e ∷ others) others)) is)
      ∙ legal t
      ∙ ap (λ b. (course_from M w (map event_of_pair (cond b (pair_of e ∷ others') others'))).replies) is

  legal_at : (t : List ℕ) (b : Bool) (before rest : List Entry) (e : Entry)
      → names t e.step ≡ b → LegalAfter before (e ∷ rest)
      → replies_to t rest ≡ (course_from M (world_of M t (before ++ e ∷ [])) (own t (pairs rest))).replies
  legal_at t true before rest e is legal =
      (legal-head t before rest e is legal).1
      ∙ ap (λ w. (course_from M w (own t (pairs rest))).replies) (sym (world_of-named M t before e is))
  legal_at t false before rest e is legal =
      legal-apart t before rest e is legal
      ∙ ap (λ w. (course_from M w (own t (pairs rest))).replies) (sym (world_of-apart t before e is))

  legal-tail : (before rest : List Entry) (e : Entry)
      → LegalAfter before (e ∷ rest) → LegalAfter (before ++ e ∷ []) rest
  legal-tail before rest e legal = λ t. legal_at t (names t e.step) before rest e refl legal

  -- ---- one entry of each

  -- the outcome of a step with what the store said
  abbrev outcome : Option World → Step → Said → Outcome
  outcome w s said = step M w (record { step = (addressed s).1; said = said })

  abbrev Same : Step → Option World → Said → Said → List Record → List Record → Step → Option World → Type 0
  Same s w said other grown grown' s' w' =
      IsHonestAt M (addressed s').0 w' (addressed s').1 other grown'
      → IsPromise (outcome w' s' other).reply → outcome w s said ≡ outcome w' s' other

  same_step : (s s' : Step) (w w' : Option World) (said other : Said) (grown grown' : List Record) → s ≡ s' → w ≡ w'
      → IsHonestAt M (addressed s).0 w (addressed s).1 said grown → IsPromise (outcome w s said).reply
      → Same s w said other grown grown' s' w'
  same_step s s' w w' said other grown grown' same_s same_w honest p =
      subst (λ x. Same s w said other grown grown' x w') same_s
      (subst (λ v. Same s w said other grown grown' s v) same_w
      (λ honest' q. same_outcome M (addressed s).0 w (addressed s).1 said other grown grown' honest honest' p q))

  module _ (before before' : List Entry) (e e' : Entry) (grown grown' : List Record)
      (same : (t : List ℕ) → world_of M t before ≡ world_of M t before') (steps : e.step ≡ e'.step)
      (honest : IsHonestAfter M before e grown) (honest' : IsHonestAfter M before' e' grown')
      (reply : e.reply ≡ (step M (world_of M (name_of e) before) (event_of e)).reply)
      (reply' : e'.reply ≡ (step M (world_of M (name_of e') before') (event_of e')).reply)
      (p : IsPromise e.reply) (q : IsPromise e'.reply) where
    worlds : world_of M (name_of e) before ≡ world_of M (name_of e') before'
    worlds = same (name_of e) ∙ ap (λ (s : Step). world_of M (addressed s).0 before') steps

    outcomes : step M (world_of M (name_of e) before)
        (event_of e) ≡ step M (world_of M (name_of e') before') (event_of e')
    outcomes = same_step e.step e'.step
        _ _ e.said e'.said grown grown' steps worlds honest (subst IsPromise reply p) honest' (subst IsPromise reply' q)

    replies : e.reply ≡ e'.reply
    replies = reply ∙ ap (λ (o : Outcome). o.reply) outcomes ∙ sym reply'

    world_at : (t : List ℕ) (b : Bool)
        → names t e.step ≡ b → world_of M t (before ++ e ∷ []) ≡ world_of M t (before' ++ e' ∷ [])
    world_at t true is =
        let is' = sym (ap (names t) steps) ∙ is in
        let here : t ≡ name_of e = same_name t (name_of e) is in
        let there : t ≡ name_of e' = same_name t (name_of e') is' in
        world_of-named M t before e is
        ∙ ap (λ u. (step M (world_of M u before) (event_of e)).world) here
        ∙ ap (λ (o : Outcome). o.world) outcomes
        ∙ ap (λ u. (step M (world_of M u before') (event_of e')).world) (sym there)
        ∙ sym (world_of-named M t before' e' is')
    world_at t false is =
        world_of-apart t before e is ∙ same t ∙ sym (world_of-apart t before' e' (sym (ap (names t) steps) ∙ is))

    worlds_after : (t : List ℕ) → world_of M t (before ++ e ∷ []) ≡ world_of M t (before' ++ e' ∷ [])
    worlds_after t = world_at t (names t e.step) refl

  -- ---- all entries

  pub same_replies : (before before' rest rest' : List Entry) (records records' : List Record)
      → ((t : List ℕ) → world_of M t before ≡ world_of M t before')
      → LegalAfter before rest → LegalAfter before' rest'
      → RecordedAfter M before rest records → RecordedAfter M before' rest' records'
      → map step_of rest ≡ map step_of rest'
      → All IsPromise (map reply_of rest) → All IsPromise (map reply_of rest')
      → map reply_of rest ≡ map reply_of rest'
  same_replies before before' [] [] records records' same legal legal' recorded recorded' steps p q = refl
  same_replies before before' [] (e' ∷ rest') records records' same legal legal' recorded recorded' steps p q =
      absurd cc
  same_replies before before' (e ∷ rest) [] records records' same legal legal' recorded recorded' steps p q = absurd cc
  same_replies before before' (e ∷ rest) (e' ∷ rest') records records' same legal legal' recorded recorded' steps p q =
      let step_here : e.step ≡ e'.step = cc in
      let steps_after : map step_of rest ≡ map step_of rest' = cc in
      let reply = (legal-head (name_of e) before rest e (is_own_name (name_of e)) legal).0 in
      let reply' = (legal-head (name_of e') before' rest' e' (is_own_name (name_of e')) legal').0 in
      let here = All-head IsPromise e.reply (map reply_of rest) p in
      let here' = All-head IsPromise e'.reply (map reply_of rest') q in
      let now = replies before
      before' e e' recorded.0 recorded'.0 same step_here recorded.3 recorded'.3 reply reply' here here' in
      let later = worlds_after
      before before' e e' recorded.0 recorded'.0 same step_here recorded.3 recorded'.3 reply reply' here here' in
      let others = same_replies (before ++ e ∷ []) (before' ++ e' ∷ []) rest rest' recorded.1 recorded'.1 later
      (legal-tail before rest e legal) (legal-tail before' rest' e' legal') recorded.4 recorded'.4 steps_after
      (All-tail IsPromise e.reply (map reply_of rest) p) (All-tail IsPromise e'.reply (map reply_of rest') q) in
      λ i. now i ∷ others i

  -- two legal histories of the same steps, over stores that were honest, with promises alone
  pub same_history : (one other : List Entry) (records records' : List Record) → IsLegal M one → IsLegal M other
      → RecordedAfter M [] one records → RecordedAfter M [] other records'
      → map step_of one ≡ map step_of other
      → All IsPromise (map reply_of one) → All IsPromise (map reply_of other)
      → map reply_of one ≡ map reply_of other
  same_history one other records records' legal legal' recorded recorded' steps p q =
      same_replies [] [] one other records records' (λ t. refl) legal legal' recorded recorded' steps p q

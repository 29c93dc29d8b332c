-- The same own steps lead a tenant the same way, where the store was honest and each reply is a promise.
use Rattle.std.proofs.Common.{◌≡◌, ℕ, List, [], ◌∷◌, ◌++◌, map, Bool, true, false, cond, refl, sym, ap, subst, ◌∙◌, All}
use Rattle.std.specs.Prelude.{Option}
use Rattle.std.specs.List.{filter}
use Rattle.std.proofs.lemmas.List.Elements.{All-nil, All-cons, All-head, All-tail}
use Rattle.std.proofs.lemmas.List.{append-nil}
use Rattle.model.specs.Addresses.{addressed}
use Rattle.model.specs.Alone.{Event, alone, course_from, step}
use Rattle.model.specs.Handler.{Meaning}
use Rattle.model.specs.History.{names, own, pairs, replies_to}
use Rattle.model.specs.Steps.{Outcome}
use Rattle.model.specs.World.{World}
use Rattle.model.specs.declared.records.Record.{Record}
use Rattle.model.specs.declared.replies.Entry.{Entry}
use Rattle.model.specs.declared.replies.Said.{Said}
use Rattle.model.specs.declared.steps.Step.{Step}
use Rattle.model.specs.declared.steps.TenantStep.{TenantStep}
use Rattle.book.specs.History.{world_of, IsHonestAt, IsHonestAfter, RecordedAfter}
use Rattle.journal.specs.GoingOn.{IsPromise}
use Rattle.journal.proofs.Outcomes.{same_outcome}
use Rattle.book.proofs.Replays.{event_of, event_of_pair, name_of, own-push, pair_of, same_name, world_of-named}
use Rattle.step_lists.specs.Lists.{own_steps}
use Rattle.step_lists.proofs.Entries.{reply_of, step_of}

abbrev event_step : Event → TenantStep
event_step e = e.step

abbrev pub told_step : Step → TenantStep
told_step s = (addressed s).1

-- ---- own steps, events and replies

module _ (t : List ℕ) where
  own-first : (e : Entry) (rest : List Entry)
      → names t e.step ≡ true → own t (pairs (e ∷ rest)) ≡ event_of e ∷ own t (pairs rest)
  own-first e rest is =
      let others = filter (λ (p : Step × Said). names t p.0) (pairs rest) in
      ap (λ b. map event_of_pair (cond b (pair_of e ∷ others) others)) is

  own-later : (e : Entry) (rest : List Entry) → names t e.step ≡ false → own t (pairs (e ∷ rest)) ≡ own t (pairs rest)
  own-later e rest is =
      let others = filter (λ (p : Step × Said). names t p.0) (pairs rest) in
      ap (λ b. map event_of_pair (cond b (pair_of e ∷ others) others)) is

  -- an event is its step with what the store said
  steps_at : (b : Bool) (e : Entry) (rest : List Entry) → names t e.step ≡ b
      → map event_step (own t (pairs rest)) ≡ map told_step (own_steps t (map step_of rest))
      → map event_step (own t (pairs (e ∷ rest))) ≡ map told_step (own_steps t (map step_of (e ∷ rest)))
  steps_at true e rest is later =
      let others = own_steps t (map step_of rest) in
      ap (map event_step) (own-first e rest is)
      ∙ ap (λ (l : List TenantStep). told_step e.step ∷ l) later
      ∙ sym (ap (λ b. map told_step (cond b (e.step ∷ others) others)) is)
  steps_at false e rest is later =
      let others = own_steps t (map step_of rest) in
      ap (map event_step) (own-later e rest is)
      ∙ later
      ∙ sym (ap (λ b. map told_step (cond b (e.step ∷ others) others)) is)

  -- The steps of a tenant's own events are its own steps of the history.
  pub own_events : (history : List Entry)
      → map event_step (own t (pairs history)) ≡ map told_step (own_steps t (map step_of history))
  own_events [] = refl
  own_events (e ∷ rest) = steps_at (names t e.step) e rest refl (own_events rest)

  -- of promises each to the tenant is one
  promises_at : (b : Bool) (e : Entry) (rest : List Entry)
      → names t e.step ≡ b → IsPromise e.reply → All IsPromise (replies_to t rest)
      → All IsPromise (replies_to t (e ∷ rest))
  promises_at true e rest is here later =
      let others = filter (λ (x : Entry). names t x.step) rest in
      subst (All IsPromise) (sym (ap (λ b. map reply_of (cond b (e ∷ others) others)) is))
      (All-cons IsPromise e.reply (replies_to t rest) here later)
  promises_at false e rest is here later =
      let others = filter (λ (x : Entry). names t x.step) rest in
      subst (All IsPromise) (sym (ap (λ b. map reply_of (cond b (e ∷ others) others)) is)) later

  -- Where each reply of a history is a promise, so is each reply to a tenant.
  pub own_promises : (history : List Entry)
      → All IsPromise (map reply_of history) → All IsPromise (replies_to t history)
  own_promises [] p = All-nil IsPromise
  own_promises (e ∷ rest) p =
      promises_at (names t e.step) e rest refl (All-head IsPromise e.reply (map reply_of rest) p)
      (own_promises rest (All-tail IsPromise e.reply (map reply_of rest) p))

module _ {S : Type 0} (M : Meaning S) (t : List ℕ) where
  -- ---- what the store said during the tenant's events is honest

  abbrev pub HonestFrom : Option World → List Event → Type 0
  HonestFrom w [] = Unit {0}
  HonestFrom w (e ∷ events) = (grown : List Record)
      × IsHonestAt M t w e.step e.said grown × HonestFrom (step M w e).world events

  world_of-apart : (h : List Entry) (e : Entry) → names t e.step ≡ false → world_of M t (h ++ e ∷ []) ≡ world_of M t h
  world_of-apart h e is =
      ap (λ (events : List Event). (alone M events).world)
      (own-push t h e ∙ ap (λ b. own t (pairs h) ++ map event_of_pair (cond b (pair_of e ∷ []) [])) is
      ∙ append-nil (own t (pairs h)))

  honest_at : (b : Bool) (before rest : List Entry) (e : Entry) (grown : List Record)
      → IsHonestAfter M before e grown → names t e.step ≡ b
      → HonestFrom (world_of M t (before ++ e ∷ [])) (own t (pairs rest))
      → HonestFrom (world_of M t before) (own t (pairs (e ∷ rest)))
  honest_at true before rest e grown honest is later =
      let here : t ≡ name_of e = same_name t (name_of e) is in
      subst (HonestFrom (world_of M t before)) (sym (own-first t e rest is)) (
        grown,
        subst (λ n. IsHonestAt M n (world_of M n before) (addressed e.step).1 e.said grown) (sym here) honest,
        subst (λ w. HonestFrom w (own t (pairs rest))) (world_of-named M t before e is) later,
      )
  honest_at false before rest e grown honest is later =
      subst (HonestFrom (world_of M t before)) (sym (own-later t e rest is))
      (subst (λ w. HonestFrom w (own t (pairs rest))) (world_of-apart before e is) later)

  -- Where the store was honest during some entries, it was so during a tenant's own events of them.
  pub honest_from : (before rest : List Entry) (records : List Record) → RecordedAfter M before rest records
      → HonestFrom (world_of M t before) (own t (pairs rest))
  honest_from before [] records recorded = tt
  honest_from before (e ∷ rest) records recorded =
      honest_at (names t e.step)
      before rest e recorded.0 recorded.3 refl (honest_from (before ++ e ∷ []) rest recorded.1 recorded.4)

  -- ---- the same steps from the same world

  module _ (w : Option World) (e e' : Event) (grown grown' : List Record) (steps : e.step ≡ e'.step)
      (honest : IsHonestAt M t w e.step e.said grown) (honest' : IsHonestAt M t w e'.step e'.said grown')
      (p : IsPromise (step M w e).reply) (q : IsPromise (step M w e').reply) where
    abbrev told : TenantStep → Event
    told s = record { step = s; said = e'.said }

    outcomes : step M w e ≡ step M w e'
    outcomes =
        same_outcome M t w e.step e.said e'.said grown grown' honest
        (subst (λ (s : TenantStep). IsHonestAt M t w s e'.said grown') (sym steps) honest')
        p (subst (λ (s : TenantStep). IsPromise (step M w (told s)).reply) (sym steps) q)
        ∙ ap (λ (s : TenantStep). step M w (told s)) steps

  -- Events with the same steps, honest answers and promises for replies make the same course.
  pub same_course : (w : Option World) (events events' : List Event) → HonestFrom w events → HonestFrom w events'
      → map event_step events ≡ map event_step events'
      → All IsPromise (course_from M w events).replies → All IsPromise (course_from M w events').replies
      → course_from M w events ≡ course_from M w events'
  same_course w [] [] h h' steps p q = refl
  same_course w [] (e' ∷ events') h h' steps p q = absurd cc
  same_course w (e ∷ events) [] h h' steps p q = absurd cc
  same_course w (e ∷ events) (e' ∷ events') h h' steps p q =
      let step_here : e.step ≡ e'.step = cc in
      let steps_after : map event_step events ≡ map event_step events' = cc in
      let others = (course_from M (step M w e).world events).replies in
      let others' = (course_from M (step M w e').world events').replies in
      let now = outcomes w e e' h.0 h'.0 step_here h.1 h'.1
      (All-head IsPromise (step M w e).reply others p) (All-head IsPromise (step M w e').reply others' q) in
      let back : (step M w e').world ≡ (step M w e).world = ap (λ (o : Outcome). o.world) (sym now) in
      let later =
      same_course (step M w e).world events events' h.2 (subst (λ x. HonestFrom x events') back h'.2) steps_after
      (All-tail IsPromise (step M w e).reply others p)
      (subst (λ x. All IsPromise (course_from M x events').replies)
      back (All-tail IsPromise (step M w e').reply others' q)) in
      let whole : course_from M (step M w e).world events ≡ course_from M (step M w e').world events' =
      later ∙ ap (λ (o : Outcome). course_from M o.world events') now in
      λ i. record { replies = (now i).reply ∷ (whole i).replies; world = (whole i).world }

-- One more entry: the book is still the replay of its history.
use Rattle.std.proofs.Common.{◌≡◌, ℕ, List, [], ◌∷◌, ◌++◌, length, arith, map, Bool, true, false, cond, refl, sym, ap}
use Rattle.std.proofs.Common.{subst, ◌∙◌, append_assoc}
use Rattle.std.specs.Prelude.{Option, None, bytes_eq}
use Rattle.std.specs.List.{filter}
use Rattle.std.proofs.lemmas.Slice.Eq.{bytes_eq-Decides}
use Rattle.std.proofs.lemmas.List.Elements.{filter-append}
use Rattle.std.proofs.lemmas.List.Concat.{flat_map-append}
use Rattle.std.proofs.lemmas.List.{length-append, map-append, append-nil}
use Rattle.model.specs.Addresses.{addressed}
use Rattle.model.specs.Alone.{Course, Event, alone, course_from, step}
use Rattle.model.specs.Handler.{Meaning}
use Rattle.model.specs.History.{names, own, pairs, replies_to}
use Rattle.model.specs.Steps.{Outcome}
use Rattle.model.specs.World.{World}
use Rattle.model.specs.declared.records.Record.{Record}
use Rattle.model.specs.declared.replies.Entry.{Entry}
use Rattle.model.specs.declared.replies.Said.{Said}
use Rattle.model.specs.declared.steps.Step.{Step}
use Rattle.shared_log.specs.Logged.{Grows}
use Rattle.tenant.specs.Live.{HasJust}
use Rattle.tenant.specs.Stands.{TenantState, StandsAt}
use Rattle.book.specs.Entries.{IsAdded, Ledger}
use Rattle.book.proofs.Wanting.{never_wanting}
use Rattle.model.specs.Keeping.{Keeping, keeping, keeping_on}
use Rattle.book.specs.Past.{HasJustAt, KeepsAt, KeepsIn, keeping_after}
use Rattle.book.proofs.Devices.{counts_on}
use Rattle.book.proofs.PastKept.{keeping-push, keeping_world}
use Rattle.book.specs.History.{DidAt, Holding, IsAnswered, IsHonestAfter, IsIsolated, IsReplay, IsSaidHonestly}
use Rattle.book.specs.History.{RecordedAfter, opened, opened_by, world_of}

-- what an entry is to its tenant
abbrev pub event_of : Entry → Event
event_of e = record { step = (addressed e.step).1; said = e.said }

abbrev pub name_of : Entry → List ℕ
name_of e = (addressed e.step).0

abbrev pub pair_of : Entry → Step × Said
pair_of e = (e.step, e.said)

abbrev pub event_of_pair : Step × Said → Event
event_of_pair p = record { step = (addressed p.0).1; said = p.1 }

-- Names whose bytes are found equal are one name.
pub same_name : (t u : List ℕ) → bytes_eq t u ≡ true → t ≡ u
same_name t u p = (bytes_eq-Decides t u).0 p

-- Names that differ differ the other way round.
pub other_way : (s t : List ℕ) → bytes_eq s t ≡ false → bytes_eq t s ≡ false
other_way s t e = by (bytes_eq t s) refl
  where
    by : (b : Bool) → bytes_eq t s ≡ b → bytes_eq t s ≡ false
    by true h = let same : t ≡ s = same_name t s h in let itself =
        subst (λ x. bytes_eq x t ≡ false) (sym same) e in cc (itself, (subst (λ x. bytes_eq t x ≡ true) (sym same) h))
    by false h = h

-- ---- more entries in the lists of a tenant

-- A tenant's own events of two histories are those of the first and then those of the second.
pub own-append : (t : List ℕ) (g h : List Entry) → own t (pairs (g ++ h)) ≡ own t (pairs g) ++ own t (pairs h)
own-append t g h =
    ap (own t) (map-append pair_of g h)
    ∙ ap (map event_of_pair) (filter-append (λ (p : Step × Said). names t p.0) (pairs g) (pairs h))
    ∙ map-append event_of_pair
    (filter (λ (p : Step × Said). names t p.0) (pairs g)) (filter (λ (p : Step × Said). names t p.0) (pairs h))

-- One more entry adds its own events to those that a tenant has.
pub own-push : (t : List ℕ) (h : List Entry) (e : Entry)
    → own t (pairs (h ++ e ∷ [])) ≡ own t (pairs h) ++ own t (pair_of e ∷ [])
own-push t h e = own-append t h (e ∷ [])

own-named : (t : List ℕ) (h : List Entry) (e : Entry)
    → names t e.step ≡ true → own t (pairs (h ++ e ∷ [])) ≡ own t (pairs h) ++ event_of e ∷ []
own-named t h e is = own-push t h e ∙ ap (λ b. own t (pairs h) ++ map event_of_pair (cond b (pair_of e ∷ []) [])) is

own-apart : (t : List ℕ) (h : List Entry) (e : Entry)
    → names t e.step ≡ false → own t (pairs (h ++ e ∷ [])) ≡ own t (pairs h)
own-apart t h e is =
    own-push t h e
    ∙ ap (λ b. own t (pairs h) ++ map event_of_pair (cond b (pair_of e ∷ []) [])) is
    ∙ append-nil (own t (pairs h))

replies_to-push : (t : List ℕ) (h : List Entry) (e : Entry)
    → replies_to t (h ++ e ∷ []) ≡ replies_to t h ++ replies_to t (e ∷ [])
replies_to-push t h e =
    ap (map (λ (x : Entry). x.reply)) (filter-append (λ (x : Entry). names t x.step) h (e ∷ []))
    ∙ map-append (λ (x : Entry). x.reply)
    (filter (λ (x : Entry). names t x.step) h) (filter (λ (x : Entry). names t x.step) (e ∷ []))

replies_to-named : (t : List ℕ) (h : List Entry) (e : Entry)
    → names t e.step ≡ true → replies_to t (h ++ e ∷ []) ≡ replies_to t h ++ e.reply ∷ []
replies_to-named t h e is = replies_to-push t h e
    ∙ ap (λ b. replies_to t h ++ map (λ (x : Entry). x.reply) (cond b (e ∷ []) [])) is

replies_to-apart : (t : List ℕ) (h : List Entry) (e : Entry)
    → names t e.step ≡ false → replies_to t (h ++ e ∷ []) ≡ replies_to t h
replies_to-apart t h e is =
    replies_to-push t h e
    ∙ ap (λ b. replies_to t h ++ map (λ (x : Entry). x.reply) (cond b (e ∷ []) [])) is
    ∙ append-nil (replies_to t h)

opened-push : (h : List Entry) (e : Entry)
    → opened (h ++ e ∷ []) ≡ opened h ++ opened_by (name_of e) (addressed e.step).1 e.reply
opened-push h e =
    flat_map-append (λ (x : Entry). opened_by (name_of x) (addressed x.step).1 x.reply) h (e ∷ [])
    ∙ ap (λ (l : List (List ℕ)). opened h ++ l) (append-nil (opened_by (name_of e) (addressed e.step).1 e.reply))

last_same : (h : List Entry) (e f : Entry) → h ++ e ∷ [] ≡ h ++ f ∷ [] → e ≡ f
last_same [] e f is = cc is
last_same (x ∷ h) e f is = last_same h e f (cc is)

never_more : (h : List Entry) (e : Entry) → h ≡ h ++ e ∷ [] → ⊥
never_more h e is = let a = ap length is in let b = length-append h (e ∷ []) in omega (arith, a, b)

-- where none was added there is nothing to be honest about
pub none_added : {S : Type 0} (M : Meaning S) (before after : Ledger)
    → after.history ≡ before.history → IsSaidHonestly M before after
none_added M before after same e is = absurd (never_more before.history e (sym same ∙ is))

module _ {S : Type 0} (M : Meaning S) where
  -- ---- one more event of a tenant alone

  abbrev pushed : Course → Event → Course
  pushed course e =
      record { replies = course.replies ++ (step M course.world e).reply ∷ []; world = (step M course.world e).world }

  course_from-push : (w : Option World) (events : List Event) (e : Event)
      → course_from M w (events ++ e ∷ []) ≡ pushed (course_from M w events) e
  course_from-push w [] e = refl
  course_from-push w (x ∷ events) e =
      ap (λ (c : Course). record { replies = (step M w x).reply ∷ c.replies; world = c.world })
      (course_from-push (step M w x).world events e)

  -- An entry that names a tenant brings the tenant's world on by one step.
  pub world_of-named : (t : List ℕ) (h : List Entry) (e : Entry) → names t e.step ≡ true
      → world_of M t (h ++ e ∷ []) ≡ (step M (world_of M t h) (event_of e)).world
  world_of-named t h e is =
      ap (λ (events : List Event). (alone M events).world) (own-named t h e is)
      ∙ ap (λ (c : Course). c.world) (course_from-push None (own t (pairs h)) (event_of e))

  legal-named : (t : List ℕ) (h : List Entry) (e : Entry) → names t e.step ≡ true
      → replies_to t h ≡ (alone M (own t (pairs h))).replies
      → (step M (world_of M t h) (event_of e)).reply ≡ e.reply
      → replies_to t (h ++ e ∷ []) ≡ (alone M (own t (pairs (h ++ e ∷ [])))).replies
  legal-named t h e is was now =
      replies_to-named t h e is
      ∙ (λ i. was i ++ sym now i ∷ [])
      ∙ ap (λ (c : Course). c.replies) (sym (course_from-push None (own t (pairs h)) (event_of e)))
      ∙ ap (λ (events : List Event). (alone M events).replies) (sym (own-named t h e is))

  legal-apart : (t : List ℕ) (h : List Entry) (e : Entry) → names t e.step ≡ false
      → replies_to t h ≡ (alone M (own t (pairs h))).replies
      → replies_to t (h ++ e ∷ []) ≡ (alone M (own t (pairs (h ++ e ∷ [])))).replies
  legal-apart t h e is was =
      replies_to-apart t h e is
      ∙ was ∙ ap (λ (events : List Event). (alone M events).replies) (sym (own-apart t h e is))

  -- ---- one more entry in the log

  recorded-push : (before entries : List Entry) (e : Entry) (records grown : List Record)
      → RecordedAfter M before entries records → IsHonestAfter M (before ++ entries) e grown
      → RecordedAfter M before (entries ++ e ∷ []) (records ++ grown)
  recorded-push before [] e records grown none honest = (
    grown,
    [],
    ap (λ (r : List Record). r ++ grown) none ∙ sym (append-nil grown),
    subst (λ b. IsHonestAfter M b e grown) (append-nil before) honest,
    refl,
  )
  recorded-push before (x ∷ entries) e records grown was honest = (
    was.0,
    was.1 ++ grown,
    ap (λ (r : List Record). r ++ grown) was.2 ∙ append_assoc was.0 was.1 grown,
    was.3,
    recorded-push (before ++ x ∷ []) entries e was.1 grown was.4
        (subst (λ b. IsHonestAfter M b e grown) (sym (append_assoc before (x ∷ []) entries)) honest),
  )

  -- ---- the book

  module _ (before after : Holding (TenantState S)) (h : List Entry) (e : Entry)
      (replay : IsReplay M before h) (answered : IsAnswered M e.step e.said e.reply before after) where
    done : DidAt M (name_of e) (world_of M (name_of e) h) (addressed e.step).1 e.said e.reply before after
    done = answered.did (world_of M (name_of e) h) (replay.stands (name_of e))

    stands_after : (t : List ℕ) (b : Bool)
        → bytes_eq t (name_of e) ≡ b → StandsAt M t (after.at t) (world_of M t (h ++ e ∷ [])) after.log.records
    stands_after t true is =
        let same : t ≡ name_of e = same_name t (name_of e) is in
        let made : done.steps.0 ≡ (step M (world_of M (name_of e) h) (event_of e)).world =
        sym (ap (λ (o : Outcome). o.world) done.steps.1) in
        let here : StandsAt M (name_of e)
        (after.at (name_of e)) (step M (world_of M (name_of e) h) (event_of e)).world after.log.records =
        subst (λ z. StandsAt M (name_of e) (after.at (name_of e)) z after.log.records) made done.steps.2 in
        subst (λ z. StandsAt M t (after.at t) z after.log.records) (sym (world_of-named t h e is))
        (subst (λ u. StandsAt M u (after.at u) (step M (world_of M u h) (event_of e)).world after.log.records)
        (sym same) here)
    stands_after t false is =
        subst (λ w. StandsAt M t (after.at t) w after.log.records)
        (sym (ap (λ (events : List Event). (alone M events).world) (own-apart t h e is)))
        (subst (λ k. StandsAt M t k (world_of M t h) after.log.records) (sym (answered.others t is))
        (answered.others_stand (before.at t) (world_of M t h) t is (replay.stands t)))

    keeps_here : KeepsAt (after.at (name_of e)) (keeping_on M (keeping_after M (name_of e) h) (event_of e))
    keeps_here =
        let k : Keeping = keeping_after M (name_of e) h in
        subst (λ w. KeepsIn (before.at (name_of e)) w k.shelves
        → KeepsAt (after.at (name_of e)) (keeping_on M (record { world = w; shelves = k.shelves }) (event_of e)))
        (sym (keeping_world M (name_of e) h)) (done.keeps k.shelves) (replay.keeps (name_of e))

    keeps_after : (t : List ℕ) (b : Bool)
        → bytes_eq t (name_of e) ≡ b → KeepsAt (after.at t) (keeping_after M t (h ++ e ∷ []))
    keeps_after t true is =
        subst (KeepsAt (after.at t))
        (sym (ap (keeping M) (own-named t h e is) ∙ keeping-push M (own t (pairs h)) (event_of e)))
        (subst (λ u. KeepsAt (after.at u) (keeping_on M (keeping_after M u h) (event_of e)))
        (sym (same_name t (name_of e) is)) keeps_here)
    keeps_after t false is =
        subst (KeepsAt (after.at t)) (sym (ap (keeping M) (own-apart t h e is)))
        (subst (λ k. KeepsAt k (keeping_after M t h)) (sym (answered.others t is)) (replay.keeps t))

    just_here : HasJustAt M (name_of e) (keeping_on M (keeping_after M (name_of e) h) (event_of e)) after.log.records
    just_here =
        let k : Keeping = keeping_after M (name_of e) h in
        subst (λ w. KeepsIn (before.at (name_of e)) w k.shelves → HasJust M (name_of e) w k.shelves before.log.records
        → HasJustAt M (name_of e) (keeping_on M (record { world = w; shelves = k.shelves }) (event_of e))
        after.log.records) (sym (keeping_world M (name_of e) h)) (done.just k.shelves) (replay.keeps (name_of e))
        (replay.just (name_of e))

    just_after : (t : List ℕ) (b : Bool) → bytes_eq t (name_of e) ≡ b
        → HasJustAt M t (keeping_after M t (h ++ e ∷ [])) after.log.records
    just_after t true is =
        subst (λ k. HasJustAt M t k after.log.records)
        (sym (ap (keeping M) (own-named t h e is) ∙ keeping-push M (own t (pairs h)) (event_of e)))
        (subst (λ u. HasJustAt M u (keeping_on M (keeping_after M u h) (event_of e)) after.log.records)
        (sym (same_name t (name_of e) is)) just_here)
    just_after t false is =
        subst (λ k. HasJustAt M t k after.log.records) (sym (ap (keeping M) (own-apart t h e is)))
        (λ u. ap length (answered.others_live t u is) ∙ replay.just t u)

    legal_after : (t : List ℕ) (b : Bool)
        → bytes_eq t (name_of e) ≡ b → replies_to t (h ++ e ∷ []) ≡ (alone M (own t (pairs (h ++ e ∷ [])))).replies
    legal_after t true is =
        legal-named t h e is (replay.legal t)
        (subst (λ u. (step M (world_of M u h) (event_of e)).reply ≡ e.reply) (sym (same_name t (name_of e) is))
        (ap (λ (o : Outcome). o.reply) done.steps.1))
    legal_after t false is = legal-apart t h e is (replay.legal t)

    -- its step was entered
    pub is_added : IsAdded (record { history = h; log = before.log })
        e.who e.step e.reply (record { history = h ++ e ∷ []; log = after.log })
    is_added = (
      e.said,
      refl,
      done.logs.device,
      done.logs.up,
      never_wanting M e.step (world_of M (name_of e) h) e.said done.logs.honest.0 e.reply done.logs.honest.2
          (ap (λ (o : Outcome). o.reply) done.steps.1),
      done.logs.steady,
      done.logs.once,
    )

    -- what the store said during its step is honest
    honest_here : (grown : List Record) × Grows before.log.records grown after.log.records × IsHonestAfter M h e grown
    honest_here = done.logs.honest

    -- What the store said during a step that was done is honest of the entry that was added.
    pub said_honestly : IsSaidHonestly
        M (record { history = h; log = before.log }) (record { history = h ++ e ∷ []; log = after.log })
    said_honestly other is = subst (λ (x : Entry). (grown : List Record) × Grows
        before.log.records grown after.log.records × IsHonestAfter M h x grown) (last_same h e other is) honest_here

    -- one more entry, whose step was done
    pub entered : IsReplay M after (h ++ e ∷ [])
    entered = record {
      stands = λ t. stands_after t (bytes_eq t (name_of e)) refl;
      keeps = λ t. keeps_after t (bytes_eq t (name_of e)) refl;
      just = λ t. just_after t (bytes_eq t (name_of e)) refl;
      order = done.order ∙ ap (λ (l : List (List ℕ)). l ++ opened_by (name_of e) (addressed e.step).1 e.reply)
          replay.order ∙ sym (opened-push h e);
      legal = λ t. legal_after t (bytes_eq t (name_of e)) refl;
      recorded = (
        replay.recorded.0 ++ done.logs.honest.0,
        recorded-push [] h e replay.recorded.0 done.logs.honest.0 replay.recorded.1 done.logs.honest.2,
        done.logs.honest.1 replay.recorded.0 replay.recorded.2,
      );
      device = counts_on h e before.log.failures after.log.failures done.logs.device done.logs.up replay.device;
    }

-- a tenant's replies and its world follow from its own pairs
pub isolated : {S : Type 0} (M : Meaning S) → IsIsolated M
isolated M tenant one other legal legal_too same = (
  legal tenant ∙ ap (λ (events : List Event). (alone M events).replies) same ∙ sym (legal_too tenant),
  ap (λ (events : List Event). (alone M events).world) same,
)

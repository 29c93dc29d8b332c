-- What left a unit in a history is what it released.
use Rattle.std.proofs.Common.{◌≡◌, refl, sym, ◌∙◌, ap, ℕ, ◌+◌, ◌≤◌, Bool, true, false, cond, List, [], ◌∷◌, ◌++◌}
use Rattle.std.proofs.Common.{length, arith, map, append_assoc, append-nil}
use Rattle.std.proofs.lemmas.Bool.{eq-eqb, eqb-true, ne_eqb}
use Rattle.std.proofs.lemmas.List.{length-append}
use Rattle.std.proofs.lemmas.List.Concat.{flat_map-cons}
use Rattle.std.proofs.lemmas.Option.{slice_get_past}
use Rattle.std.specs.List.{filter, fold}
use Rattle.std.specs.Prelude.{◌==◌, Option, Some, None, option_map, slice_get, slice_set, flat_map, nat_lt, nat_le}
use native.Mathlib.Decide.{ℕ_discrete, dec_lt}
use Rattle.model.specs.Addresses.{addressed}
use Rattle.model.specs.Alone.{Event, course_from, no_tenant, step, step_open, step_unopened}
use Rattle.model.specs.Handler.{Meaning}
use Rattle.model.specs.History.{names, own, pairs, replies_to}
use Rattle.model.specs.Nodes.{Message}
use Rattle.model.specs.Steps.{Outcome, at_unit, at_up, can_open, first_refusal, fresh, if_letter, if_unit, is_down}
use Rattle.model.specs.Steps.{join_kind, kind_or_0, notice_orphan, notice_rows, open_new, opened_with, outcome_or}
use Rattle.model.specs.Steps.{path_kept, release, unless, with_member, with_released, with_unit}
use Rattle.model.specs.World.{World, Member, executed, releasable}
use Rattle.model.specs.declared.limits.TheConstants.{MAX_UNITS}
use Rattle.model.specs.declared.names.Quota.{Quota}
use Rattle.model.specs.declared.names.Seat.{Seat}
use Rattle.model.specs.declared.refusals.Refusal.{Refusal}
use Rattle.model.specs.declared.refusals.Refusal.TheVariants.{BadOpen, Limit}
use Rattle.model.specs.declared.replies.Entry.{Entry}
use Rattle.model.specs.declared.replies.Reply.{Reply}
use Rattle.model.specs.declared.replies.Reply.TheVariants.{Joined, Refused, Released}
use Rattle.model.specs.declared.replies.Said.{Said}
use Rattle.model.specs.declared.steps.Step.{Step}
use Rattle.model.specs.declared.steps.TenantStep.{TenantStep}
use Rattle.model.specs.declared.steps.TenantStep.TheVariants.{Open, Join, Post, Deliver, Flush, Checkpoint, Kill}
use Rattle.model.specs.declared.steps.TenantStep.TheVariants.{Restart, Notice, Release, Status}
use Rattle.model.proofs.Places.{get_below}
use Rattle.theory.proofs.ListLaws.{append_get, append_get_last, set_get_same, set_get_other}
use Rattle.book.specs.History.{released_at}
use Rattle.driver.specs.Driving.{outputs_of}
use Rattle.driver.specs.Telling.{left_by, left_from, texts_in}

-- what the unit of this number has released, where it is there
abbrev out_of : Option Member → List (List ℕ)
out_of None = []
out_of (Some m) = m.released

abbrev texts_of : List Member → ℕ → List (List ℕ)
texts_of members u = out_of (slice_get members u)

abbrev out_at : Option World → ℕ → List (List ℕ)
out_at None u = []
out_at (Some w) u = texts_of w.members u

in_released : (o : Option Member) → out_of o ≡ texts_in (option_map (λ m. m.released) o)
in_released None = refl
in_released (Some m) = refl

-- What a unit has let out is what it released, and nothing where it isn't there.
pub out_is : (w : Option World) (u : ℕ) → out_at w u ≡ texts_in (released_at w u)
out_is None u = refl
out_is (Some w) u = in_released (slice_get w.members u)

cond_none : (b : Bool) → cond {A = List (List ℕ)} b [] [] ≡ []
cond_none true = refl
cond_none false = refl

-- a reply that releases nothing
pub none_left : (u : ℕ) (step : TenantStep) (reply : Reply) → outputs_of reply ≡ [] → left_by u step reply ≡ []
none_left u (Open kinds quota optimism) reply e = refl
none_left u (Join kind) reply e = refl
none_left u (Post unit number text) reply e = refl
none_left u (Deliver letter) reply e = refl
none_left u (Flush unit) reply e = refl
none_left u (Checkpoint unit) reply e = refl
none_left u (Kill unit) reply e = refl
none_left u (Restart unit) reply e = refl
none_left u (Notice unit) reply e = refl
none_left u (Release unit) reply e = ap (λ (l : List (List ℕ)). cond (unit == u) l []) e ∙ cond_none (unit == u)
none_left u (Status unit) reply e = refl

-- ---- a step that is no release

-- each unit has released the same
pub record Same (v : World) (o : Option World) : Type 0 where
  pub same : (u : ℕ) → out_at o u ≡ texts_of v.members u

same_one : (v : World) → Same v (Some v)
same_one v = record { same = λ u. refl }

same_unless : (v : World) (out : Outcome) (o : Option Refusal) → Same v out.world → Same v (outcome_or v out o).world
same_unless v out None s = s
same_unless v out (Some r) s = same_one v

same_unit : (v : World) (u : ℕ) (f : Member → Outcome)
    → ((m : Member) → slice_get v.members u ≡ Some m → Same v (f m).world) → Same v (at_unit v u f).world
unfolding at_unit
same_unit v u f g = go (slice_get v.members u) refl
  where
    go : (o : Option Member) → slice_get v.members u ≡ o → Same v (if_unit v f o).world
    go None q = same_one v
    go (Some m) q = g m q

same_up : (v : World) (u : ℕ) (f : Member → Outcome)
    → ((m : Member) → slice_get v.members u ≡ Some m → Same v (f m).world) → Same v (at_up v u f).world
unfolding at_up
same_up v u f g = same_unit v u _ (λ m found. same_unless v (f m) _ (g m found))

-- one unit is set
set_texts : (members : List Member) (u : ℕ) (m n : Member) → slice_get members u ≡ Some m
    → (x : ℕ) → texts_of (slice_set members u n) x ≡ cond (u == x) n.released (texts_of members x)
set_texts members u m n found x = elim (ℕ_discrete x u) [
  | yes k ↦ ap out_of (ap (slice_get (slice_set members u n)) k ∙ set_get_same members u n m found)
      ∙ sym (ap (λ b. cond b n.released (texts_of members x)) (eq-eqb u x (sym k)))
  | no k ↦ ap out_of (set_get_other members u x n k)
      ∙ sym (ap (λ b. cond b n.released (texts_of members x)) (ne_eqb u x (λ e. k (sym e))))
]

same_set : (v w : World) (u : ℕ) (m n : Member)
    → slice_get v.members u ≡ Some m → w.members ≡ slice_set v.members u n → n.released ≡ m.released → Same v (Some w)
same_set v w u m n found is e =
    record { same = λ x. ap (λ ms. texts_of ms x) is ∙ set_texts v.members u m n found x ∙ go x (u == x) refl }
  where
    here : (x : ℕ) → (u == x) ≡ true → n.released ≡ texts_of v.members x
    here x b = e ∙ sym (ap out_of (ap (slice_get v.members) (sym (eqb-true u x b)) ∙ found))

    go : (x : ℕ) (b : Bool) → (u == x) ≡ b → cond b n.released (texts_of v.members x) ≡ texts_of v.members x
    go x true q = here x q
    go x false q = refl

nothing : (m : Member) → None ≡ Some m → ⊥
nothing m e = cc

-- one unit more
more_texts : (members : List Member) (n : Member)
    → n.released ≡ [] → (x : ℕ) → texts_of (members ++ n ∷ []) x ≡ texts_of members x
more_texts members n e x = go (slice_get members x) refl
  where
    past : length members ≤ x → texts_of (members ++ n ∷ []) x ≡ []
    past within = elim (ℕ_discrete x (length members)) [
      | yes k ↦ ap out_of (ap (slice_get (members ++ n ∷ [])) k ∙ append_get_last members n) ∙ e
      | no k ↦
          ap out_of (slice_get_past (members ++ n ∷ []) x (omega (arith, within, k, length-append members (n ∷ []))))
    ]

    go : (o : Option Member) → slice_get members x ≡ o → texts_of (members ++ n ∷ []) x ≡ texts_of members x
    go None q = elim (dec_lt x (length members)) [
      | yes k ↦ let m = get_below members x k in absurd (nothing m.0 (sym q ∙ m.1))
      | no k ↦ past (omega (arith, k)) ∙ sym (ap out_of q)
    ]
    go (Some m) q = ap out_of (append_get members (n ∷ []) x m q) ∙ sym (ap out_of q)

module _ {S : Type 0} (M : Meaning S) (v : World) where
  same_letter : (l : ℕ) (o : Option Message) → Same v (if_letter M v l o).world
  same_letter l None = same_one v
  same_letter l (Some msg) =
      same_unit v msg.receiver _ (λ m found. same_unless v _ _ (same_set v _ msg.receiver m _ found refl refl))

  same_notice : (u : ℕ) (said : Said) (m : Member) → slice_get v.members u ≡ Some m
      → (b : Bool) → Same v (cond b (notice_orphan v u said m) (notice_rows v u m)).world
  same_notice u said m found true = same_unless v _ _ (same_set v _ u m _ found refl refl)
  same_notice u said m found false = same_set v _ u m _ found refl refl

  same_join : (o : Option ℕ) → Same v (join_kind v o).world
  same_join None = same_one v
  same_join (Some kind) =
      let count = length v.members in
      let seat : Seat = record { unit = count; kind = kind; home = count + 1 } in
      same_unless v (record { reply = Joined count; world = Some (with_unit (count + 1) v kind) })
      (first_refusal ((nat_le MAX_UNITS count, Limit) ∷ []))
      (record { same = λ x. more_texts v.members (fresh seat (length v.nodes) (length v.table)) refl x })

  -- the texts of a step that lets none out
  abbrev Leaves : TenantStep → Said → Type 0
  Leaves st said = (u : ℕ)
      → out_at (step_open M v st said).world u ≡ texts_of v.members u ++ left_by u st (step_open M v st said).reply

  leaves : (st : TenantStep) (said : Said) → Same v (step_open M v st said).world
      → ((u : ℕ) → left_by u st (step_open M v st said).reply ≡ []) → Leaves st said
  leaves st said s none u = s.same u
      ∙ sym (append-nil (texts_of v.members u)) ∙ sym (ap (λ (l : List (List ℕ)). texts_of v.members u ++ l) (none u))

  -- a release
  released_one : (u : ℕ) (m : Member)
      → slice_get v.members u ≡ Some m → (outputs : List (List ℕ)) (n : Member) → n.released ≡ m.released ++ outputs
      → (x : ℕ) → texts_of (slice_set v.members u n) x ≡ texts_of v.members x ++ cond (u == x) outputs []
  released_one u m found outputs n e x = set_texts v.members u m n found x ∙ go (u == x) refl
    where
      go : (b : Bool) → (u == x) ≡ b
          → cond b n.released (texts_of v.members x) ≡ texts_of v.members x ++ cond b outputs []
      go true q = e ∙ ap (λ (l : List (List ℕ)). l ++ outputs)
          (sym (ap out_of (ap (slice_get v.members) (sym (eqb-true u x q)) ∙ found)))
      go false q = sym (append-nil (texts_of v.members x))

  abbrev Releases : ℕ → Outcome → Type 0
  Releases u out = (x : ℕ) → out_at out.world x ≡ texts_of v.members x ++ cond (u == x) (outputs_of out.reply) []

  refused_release : (u : ℕ) (x : ℕ) → texts_of v.members x ≡ texts_of v.members x ++ cond (u == x) [] []
  refused_release u x = sym (append-nil (texts_of v.members x))
      ∙ sym (ap (λ (l : List (List ℕ)). texts_of v.members x ++ l) (cond_none (u == x)))

  release_unless : (u : ℕ) (out : Outcome) (o : Option Refusal) → Releases u out → Releases u (outcome_or v out o)
  release_unless u out None r = r
  release_unless u out (Some refusal) r = refused_release u

  firm_out : Member → List (List ℕ)
  firm_out m = map (λ o. o.1) (releasable M v m)

  let_out : ℕ → Member → Outcome
  let_out u m = record { reply = Released (firm_out m); world = Some (with_member v u (with_released m (firm_out m))) }

  release_at : (u : ℕ) (o : Option Member)
      → slice_get v.members u ≡ o → Releases u (if_unit v (λ m. unless v (is_down m ∷ []) (let_out u m)) o)
  unfolding let_out firm_out
  release_at u None q = refused_release u
  release_at u (Some m) q = release_unless u (let_out u m)
      (first_refusal (is_down m ∷ [])) (released_one u m q (firm_out m) (with_released m (firm_out m)) refl)

  releases : (u : ℕ) → Releases u (release M v u)
  unfolding at_unit at_up let_out firm_out
  releases u = release_at u (slice_get v.members u) refl

  pub open_leaves : (st : TenantStep) (said : Said) → Leaves st said
  open_leaves (Open kinds quota optimism) said = leaves (Open kinds quota optimism) said (same_one v) (λ u. refl)
  open_leaves (Join kind) said = leaves (Join kind) said (same_join (M.kind kind)) (λ u. refl)
  open_leaves (Post unit number text) said = leaves (Post unit number text)
      said (same_unit v unit _ (λ m found. same_unless v _ _ (same_set v _ unit m _ found refl refl))) (λ u. refl)
  open_leaves (Deliver l) said =
      leaves (Deliver l) said (same_letter l (slice_get (executed M v).letters l)) (λ u. refl)
  open_leaves (Flush unit) said =
      leaves (Flush unit) said (same_up v unit _ (λ m found. same_set v _ unit m _ found refl refl)) (λ u. refl)
  open_leaves (Checkpoint unit) said =
      leaves (Checkpoint unit) said (same_up v unit _ (λ m found. same_unless v _ _ (same_one v))) (λ u. refl)
  open_leaves (Kill unit) said =
      leaves (Kill unit) said (same_up v unit _ (λ m found. same_set v _ unit m _ found refl refl)) (λ u. refl)
  open_leaves (Restart unit) said = leaves (Restart unit)
      said (same_unit v unit _ (λ m found. same_unless v _ _ (same_set v _ unit m _ found refl refl))) (λ u. refl)
  open_leaves (Notice unit) said = leaves (Notice unit) said (same_up v
      unit _ (λ m found. same_notice unit said m found (nat_lt (length (path_kept v m)) (length m.path)))) (λ u. refl)
  open_leaves (Release unit) said = releases unit
  open_leaves (Status unit) said = leaves (Status unit) said (same_unit v unit _ (λ m found. same_one v)) (λ u. refl)

-- ---- a tenant that is opened

abbrev Bare : World → Type 0
Bare w = (u : ℕ) → texts_of w.members u ≡ []

bare_units : {S : Type 0} (M : Meaning S) (home : ℕ) (kinds : List (List ℕ)) (w : World)
    → Bare w → Bare (fold (λ w n. with_unit home w (kind_or_0 (M.kind n))) w kinds)
bare_units M home [] w b = b
bare_units M home (n ∷ kinds) w b = bare_units M home kinds (with_unit home w (kind_or_0 (M.kind n)))
    (λ u. more_texts w.members (fresh _ (length w.nodes) (length w.table)) refl u ∙ b u)

no_units : (u : ℕ) → texts_of [] u ≡ []
no_units u = ap out_of (slice_get_past {X = Member} [] u (omega arith))

-- ---- some steps of one tenant

abbrev pub along : ℕ → List Event → List Reply → List (List ℕ)
along u [] replies = []
along u (e ∷ events) [] = []
along u (e ∷ events) (r ∷ replies) = left_by u e.step r ++ along u events replies

-- ---- a history

abbrev pub left_in : List ℕ → ℕ → List Entry → List (List ℕ)
left_in tenant u history = flat_map (λ (e : Entry). left_from tenant u (e.step, e.reply)) history

-- What left a unit in a history is what left it by its tenant's own events and their replies.
pub own_leaves : (tenant : List ℕ) (u : ℕ) (history : List Entry)
    → left_in tenant u history ≡ along u (own tenant (pairs history)) (replies_to tenant history)
own_leaves tenant u [] = refl
own_leaves tenant u (e ∷ history) = flat_map-cons (λ (x : Entry). left_from tenant u (x.step, x.reply)) e history
    ∙ go (own_leaves tenant u history) (names tenant e.step)
  where
    pair_of : Step × Said
    pair_of = (e.step, e.said)

    event_of : Step × Said → Event
    event_of = λ p. record { step = (addressed p.0).1; said = p.1 }

    others : List (Step × Said)
    others = filter (λ (p : Step × Said). names tenant p.0) (pairs history)

    later : List Entry
    later = filter (λ (x : Entry). names tenant x.step) history

    go : left_in tenant u history ≡ along u (own tenant (pairs history)) (replies_to tenant history)
        → (b : Bool) → cond b (left_by u (addressed e.step).1 e.reply) [] ++ left_in tenant u history
        ≡ along u (map event_of (cond b (pair_of ∷ others) others))
        (map (λ (x : Entry). x.reply) (cond b (e ∷ later) later))
    go so_far true = ap (λ (l : List (List ℕ)). left_by u (addressed e.step).1 e.reply ++ l) so_far
    go so_far false = so_far

-- ---- the world after some steps

module _ {S : Type 0} (M : Meaning S) where
  bare_open : (kinds : List (List ℕ)) (quota : Quota) (optimism : ℕ) (u : ℕ)
      → out_at (open_new M kinds quota optimism).world u ≡ []
  bare_open kinds quota optimism u = go (can_open M kinds quota optimism)
    where
      go : (b : Bool) → out_at
          (cond b (opened_with M kinds quota optimism) (record { reply = Refused BadOpen; world = None })).world u ≡ []
      go true = bare_units M (length kinds) kinds _ no_units u
      go false = refl

  -- a step leaves what had left before, and what its reply tells
  pub step_leaves : (w : Option World) (e : Event) (u : ℕ)
      → out_at (step M w e).world u ≡ out_at w u ++ left_by u e.step (step M w e).reply
  step_leaves (Some w) e u = open_leaves M w e.step e.said u
  step_leaves None e u = go e.step
    where
      go : (st : TenantStep) → out_at (step_unopened M st).world u ≡ left_by u st (step_unopened M st).reply
      go (Open kinds quota optimism) = bare_open kinds quota optimism u
      go (Join kind) = refl
      go (Post unit number text) = refl
      go (Deliver letter) = refl
      go (Flush unit) = refl
      go (Checkpoint unit) = refl
      go (Kill unit) = refl
      go (Restart unit) = refl
      go (Notice unit) = refl
      go (Release unit) = sym (none_left u (Release unit) no_tenant.reply refl)
      go (Status unit) = refl

  -- Behind some events a unit has let out what it had before, and what their replies let out.
  pub course_leaves : (w : Option World) (events : List Event) (u : ℕ)
      → out_at (course_from M w events).world u ≡ out_at w u ++ along u events (course_from M w events).replies
  course_leaves w [] u = sym (append-nil (out_at w u))
  course_leaves w (e ∷ events) u =
      let first = step M w e in
      let rest = along u events (course_from M first.world events).replies in
      course_leaves first.world events u
      ∙ ap (λ (l : List (List ℕ)). l ++ rest) (step_leaves w e u)
      ∙ append_assoc (out_at w u) (left_by u e.step first.reply) rest

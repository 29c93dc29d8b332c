-- The log has just the live records that the rules of keeping leave.
use Rattle.std.proofs.Common.{◌≡◌, ◌⊎◌, inl, inr, refl, sym, ◌∙◌, ap, subst, ℕ, suc, ◌+◌, ◌-◌, ◌<◌, ◌≤◌, Bool, true}
use Rattle.std.proofs.Common.{false, cond, min, List, [], ◌∷◌, ◌++◌, length, take, drop, arith, map, length-append}
use Rattle.std.proofs.Common.{length-drop, length-take}
use Rattle.std.specs.Prelude.{IfOk, IfSome, Option, Some, None, Result, Ok, Err, slice_get, slice_set, option_map, ◌==◌}
use Rattle.std.specs.Prelude.{◌↔◌}
use Rattle.std.specs.Option.{is_some}
use Rattle.std.proofs.lemmas.List.{length-map, nil_from_length}
use Rattle.std.proofs.lemmas.Option.{same_Some, slice_get_past, slice_get_within}
use native.Mathlib.Decide.{dec_lt, ℕ_discrete}
use Rattle.model.specs.declared.records.Record.{Record}
use Rattle.model.specs.declared.refusals.Refusal.{Refusal}
use Rattle.model.specs.declared.replies.End.TheVariants.{Memory as NoMemory, Whole}
use Rattle.model.specs.declared.replies.Reply.{Reply}
use Rattle.model.specs.declared.replies.Said.{Said}
use Rattle.model.specs.declared.steps.TenantStep.{TenantStep}
use Rattle.model.specs.declared.steps.TenantStep.TheVariants.{Join}
use Rattle.model.specs.Alone.{step_open}
use Rattle.model.specs.Handler.{Meaning}
use Rattle.model.specs.Keeping.{Shelf, kept_if, kept_in, shelves_after}
use Rattle.model.specs.Lists.{numbers_from}
use Rattle.model.specs.Nodes.{Cause, Message, letter, outside}
use Rattle.model.specs.Steps.{Outcome, at_unit, at_up, if_letter, join_kind, killed, unless, with_member, with_place}
use Rattle.model.specs.Steps.{with_receipt, with_released, with_unit}
use Rattle.model.specs.Records.{record_of}
use Rattle.model.specs.World.{Member, World, executed, releasable, stable_path}
use Rattle.model.proofs.Places.{get_below}
use Rattle.theory.proofs.Changes.{if_unit_cases, unless_cases}
use Rattle.theory.proofs.ListLaws.{append_get, at_map, eq_true, get_append, get_set, set_get_other}
use Rattle.theory.proofs.ListLaws.{set_get_same}
use Rattle.layer_laws.proofs.Numbers.{length-numbers}
use Rattle.compact.specs.Compact.{CompactLetter}
use Rattle.rollback.specs.Units.{IsKept, IsTarget, OrphansAreTail, Recovering, based_on, forgotten, marked_stable}
use Rattle.rollback_laws.proofs.Places.{places_are_seen}
use Rattle.rollback_laws.proofs.Standing.{units_are_ready}
use Rattle.shared_log.specs.Logged.{IsHeld, IsLeftOf, Logged, places_from, places_of}
use Rattle.shared_log.proofs.PlacesLaws.{all_held, places_are}
use Rattle.tenant.specs.Answers.{Answer}
use Rattle.tenant.specs.Bases.{LetsGo, given_up, moved_kept, moved_member, next_base}
use Rattle.tenant.specs.Past.{KeepsOn, KeepsPast, amount_of, shelf_of}
use Rattle.tenant.specs.Kept.{MakesStable, TenantState, Member as MemberOf, flushed_member, kept_length, live_count}
use Rattle.tenant.specs.Kept.{returned_member}
use Rattle.tenant.specs.Live.{AreLive, HasJust, HasOwn, KeepsJust, StaysJust, amount_live, live_of, records_if}
use Rattle.tenant.specs.Returns.{Returns, Went}
use Rattle.tenant.specs.Stands.{Did, IsStanding, Stands, live_in}
use Rattle.tenant.proofs.Back.{went_count}
use Rattle.tenant.proofs.Counted.{kept_same}
use Rattle.tenant.proofs.Flushing.{live_other, live_own}
use Rattle.tenant.proofs.Follow.{KeepsUnit, keeps}
use Rattle.tenant.proofs.PastKept.{StepStays, stays_is}
use Rattle.tenant.proofs.PastKept.StepStays.{deliver_stays, kill_stays, post_stays, release_stays, status_stays}
use Rattle.tenant.proofs.Lasting.{SameBases, past_opened, same_bases}
use Rattle.tenant.proofs.Moving.{next_is, not_back}
use Rattle.tenant.proofs.Places.{found_whole, live_same}
use Rattle.tenant.proofs.Reading.{All-at}
use Rattle.tenant.proofs.Standing.{opened}

-- ---- by the tenant's lists, and by the world

own_amount : {S : Type 0} (letters : List CompactLetter) (u : ℕ) (o : Option (MemberOf S))
    → live_of o ≡ amount_live (option_map (amount_of letters u) o)
own_amount letters u None = refl
own_amount letters u (Some m) = refl

module _ {S : Type 0} (M : Meaning S) (name : List ℕ) (t : TenantState S) (w : World) (records : List (Option Record))
    (shelves : List Shelf) (s : Stands M name t w records) (k : KeepsPast t w shelves) where
  amount_same : (u : ℕ) → live_of (slice_get t.members u) ≡ amount_live (kept_in M w shelves u)
  amount_same u = own_amount t.letters u (slice_get t.members u)
      ∙ ap amount_live (kept_same M name t w records shelves s k u)

  -- Where the log has just what the rules leave, it has just the tenant's own.
  pub just_own : HasJust M name (Some w) shelves records → HasOwn name t records
  just_own h u = h u ∙ sym (amount_same u)

  -- Where the log has just the tenant's own, it has just what the rules leave.
  pub own_just : HasOwn name t records → HasJust M name (Some w) shelves records
  own_just h u = h u ∙ amount_same u

-- ---- steps by what they leave of the tenant

module _ {S : Type 0} (M : Meaning S) (name : List ℕ) (t v : TenantState S) (step : TenantStep)
    (before after : Logged) where
  -- A step that leaves just the tenant's own live records leaves what the rules leave.
  pub stays_keeps : (said : Said) (reply : Reply)
      → ((w : World) → Stands M name t w before.records → Did M name w v step said reply before after)
      → KeepsOn M name t step said reply v before.records
      → StaysJust M name t before.records v after.records
      → KeepsJust M name t step said reply before.records after.records
  stays_keeps said reply did keeps stays w z shelves s e kept just =
      let d = did w s in
      let world : d.steps.0 ≡ z = same_Some d.steps.0 z (ap (λ (q : Outcome). q.world) (sym d.steps.1 ∙ e)) in
      let stands : Stands M name v z after.records =
      subst (λ (y : World). Stands M name v y after.records) world d.steps.2 in
      own_just M name v z after.records (shelves_after z step reply shelves) stands (keeps w z shelves s e kept)
      (stays w s (just_own M name t w before.records shelves s kept just))

  -- So it is of a call that succeeds.
  pub stays_ok : {E : Type 0} (r : Result Answer E)
      → IfOk r (λ a. (w : World) → Stands M name t w before.records → Did M name w v step a.said a.reply before after)
      → IfOk r (λ a. KeepsOn M name t step a.said a.reply v before.records)
      → IfOk r (λ _. StaysJust M name t before.records v after.records)
      → IfOk r (λ a. KeepsJust M name t step a.said a.reply before.records after.records)
  stays_ok (Ok a) did keeps stays = stays_keeps a.said a.reply did keeps stays
  stays_ok (Err e) did keeps stays = tt

-- ---- steps that leave the log as it is

-- No unit's stable length changes, and a new unit is at its beginning.
pub record StaysStable (w z : World) : Type 0 where
  pub stays : (u : ℕ) (m : Member) → slice_get w.members u ≡ Some m
      → (n : Member) × (slice_get z.members u ≡ Some n) × (n.stable ≡ m.stable)
  pub fresh : (u : ℕ) (n : Member) → slice_get w.members u ≡ None → slice_get z.members u ≡ Some n → n.stable ≡ 1

module _ (w z : World) where
  still : w ≡ z → StaysStable w z
  still e = subst (StaysStable w) e (record {
    stays = λ u m at. (m, at, refl);
    fresh = λ u n none at. absurd (cc (none, at));
  })

  set_still : (u : ℕ) (m n : Member) → slice_get w.members u ≡ Some m → n.stable ≡ m.stable
      → (x : World) → x.members ≡ slice_set w.members u n → Some x ≡ Some z → StaysStable w z
  set_still u m n found same x members e = subst (StaysStable w) (same_Some x z e) (record {
    stays = λ v q at. elim (ℕ_discrete v u) [
      | yes h ↦ (
        n,
        ap (λ (ms : List Member). slice_get ms v) members ∙ ap (slice_get (slice_set w.members u n)) h
            ∙ set_get_same w.members u n m found,
        same ∙ ap (λ (y : Member). y.stable) (same_Some m q (sym found ∙ ap (slice_get w.members) (sym h) ∙ at)),
      )
      | no h ↦ (
        q,
        ap (λ (ms : List Member). slice_get ms v) members ∙ set_get_other w.members u v n h ∙ at,
        refl,
      )
    ];
    fresh = λ v q none at.
        let there : slice_get (slice_set w.members u n) v ≡ Some q =
        ap (λ (ms : List Member). slice_get ms v) (sym members) ∙ at in
        elim (get_set w.members u v n q there) [
          | inl h ↦ absurd (let e : slice_get w.members u ≡ None = ap (slice_get w.members) (sym h.0) ∙ none in
              cc (e, found))
          | inr h ↦ absurd (let e = h.1 in cc (none, e))
        ];
  })

  unless_still : (tests : List (Bool × Refusal)) (out : Outcome)
      → (out.world ≡ Some z → StaysStable w z) → (unless w tests out).world ≡ Some z → StaysStable w z
  unless_still tests out f e = elim (unless_cases w z tests out e) [ inl h ↦ still h | inr h ↦ f h.1 ]

  at_unit_still : (u : ℕ) (f : Member → Outcome) → ((m : Member) → slice_get w.members u ≡ Some m
      → (f m).world ≡ Some z → StaysStable w z) → (at_unit w u f).world ≡ Some z → StaysStable w z
  unfolding at_unit
  at_unit_still u f g e =
      elim (if_unit_cases w z f (slice_get w.members u) e) [ inl h ↦ still h | inr h ↦ g h.0 h.1 h.2 ]

  at_up_still : (u : ℕ) (f : Member → Outcome) → ((m : Member) → slice_get w.members u ≡ Some m
      → (f m).world ≡ Some z → StaysStable w z) → (at_up w u f).world ≡ Some z → StaysStable w z
  unfolding at_up
  at_up_still u f g e = at_unit_still u _ (λ m found. unless_still _ (f m) (λ q. g m found q)) e

  module _ {S : Type 0} (M : Meaning S) where
    receipt_still : (u : ℕ) (m : Member) (cause : Cause) → slice_get w.members u ≡ Some m
        → Some (with_receipt w u m cause) ≡ Some z → StaysStable w z
    receipt_still u m cause found q =
        set_still u m (with_place m (length w.nodes)) found refl (with_receipt w u m cause) refl q

    deliver_still : (l : ℕ) (o : Option Message) → (if_letter M w l o).world ≡ Some z → StaysStable w z
    deliver_still l None q = still (same_Some w z q)
    deliver_still l (Some msg) q = at_unit_still msg.receiver _ (λ m found. unless_still _ _
        (receipt_still msg.receiver m (letter l msg.sender) found)) q

    quiet_still : (step : TenantStep) → StepStays step → (said : Said) → (step_open M w step said).world ≡ Some z
        → StaysStable w z
    quiet_still step (post_stays u number text) said e = at_unit_still u _ (λ m found. unless_still _ _
        (receipt_still u m (outside number text) found)) e
    quiet_still step (deliver_stays l) said e = deliver_still l (slice_get (executed M w).letters l) e
    quiet_still step (kill_stays u) said e =
        at_up_still u _ (λ m found q. set_still u m (killed m) found refl (with_member w u (killed m)) refl q) e
    quiet_still step (release_stays u) said e = at_up_still u _ (λ m found q.
        set_still u m (with_released m (map (λ o. o.1) (releasable M w m))) found refl
        (with_member w u (with_released m (map (λ o. o.1) (releasable M w m)))) refl q) e
    quiet_still step (status_stays u) said e = at_unit_still u _ (λ m found q. still (same_Some w z q)) e

    -- a unit more
    one_more : (kind : ℕ) → Some (with_unit (length w.members + 1) w kind) ≡ Some z → StaysStable w z
    one_more kind e = subst (StaysStable w) (same_Some (with_unit (length w.members + 1) w kind) z e) (record {
      stays = λ u m at. (m, append_get w.members _ u m at, refl);
      fresh = λ u n none at. elim (get_append w.members _ n u at) [
        | inl h ↦ absurd (cc (none, h))
        | inr h ↦ ap (λ (y : Member). y.stable) h.1
      ];
    })

    kind_still : (o : Option ℕ) → (join_kind w o).world ≡ Some z → StaysStable w z
    kind_still None e = still (same_Some w z e)
    kind_still (Some kind) e = unless_still _ _ (one_more kind) e

    join_still : (kind : List ℕ) (said : Said) → (step_open M w (Join kind) said).world ≡ Some z → StaysStable w z
    join_still kind said e = kind_still (M.kind kind) e

-- ---- what the rules leave then

module _ {S : Type 0} (M : Meaning S) (w : World) (shelves : List Shelf) where
  amount_none : (u : ℕ) → slice_get w.members u ≡ None → amount_live (kept_in M w shelves u) ≡ 0
  amount_none u e = ap (λ o. amount_live (kept_if M w u o (slice_get shelves u))) e

  amount_some : (u : ℕ) (m : Member) (s : Shelf) → slice_get w.members u ≡ Some m → slice_get shelves u ≡ Some s
      → amount_live (kept_in M w shelves u) ≡ m.stable - 1 - s.base
  amount_some u m s e f = λ i. amount_live (kept_if M w u (e i) (f i))

module _ {S : Type 0} (M : Meaning S) (w z : World) (shelves later : List Shelf)
    (width : length shelves ≡ length w.members) (width_after : length later ≡ length z.members)
    (stable : StaysStable w z)
    (bases : (u : ℕ) (s : Shelf) → slice_get later u ≡ Some s
    → ((r : Shelf) × (slice_get shelves u ≡ Some r) × (r.base ≡ s.base)) ⊎ ((length shelves ≤ u) × (s.base ≡ 0))) where
  amount_stays : (u : ℕ) → amount_live (kept_in M w shelves u) ≡ amount_live (kept_in M z later u)
  amount_stays u = elim (dec_lt u (length z.members)) [
    | yes q ↦
        let n = get_below z.members u q in
        let s = get_below later u (omega (arith, q, width_after)) in
        elim (bases u s.0 s.1) [
          | inl h ↦
              let m = get_below w.members u (let a = slice_get_within shelves u h.0 h.1 in omega (arith, a, width)) in
              let there = stable.stays u m.0 m.1 in
              let same : n.0 ≡ there.0 = same_Some n.0 there.0 (sym n.1 ∙ there.1) in
              amount_some M w shelves u m.0 h.0 m.1 h.1
              ∙ (λ i. sym there.2 i - 1 - h.2 i)
              ∙ (λ i. (sym same i).stable - 1 - s.0.base)
              ∙ sym (amount_some M z later u n.0 s.0 n.1 s.1)
          | inr h ↦
              let high = h.0 in
              let none = slice_get_past w.members u (omega (arith, high, width)) in
              let one = stable.fresh u n.0 none n.1 in
              let low = h.1 in
              amount_none M w shelves u none
              ∙ (let e : 0 ≡ n.0.stable - 1 - s.0.base = omega (arith, one, low) in e)
              ∙ sym (amount_some M z later u n.0 s.0 n.1 s.1)
        ]
    | no q ↦
        let none_after = slice_get_past z.members u (omega (arith, q)) in
        let none : slice_get w.members u ≡ None = elim (dec_lt u (length w.members)) [
          | yes r ↦
              let m = get_below w.members u r in
              let there = stable.stays u m.0 m.1 in
              absurd (let e = there.1 in cc (e, none_after))
          | no r ↦ slice_get_past w.members u (omega (arith, r))
        ] in
        amount_none M w shelves u none ∙ sym (amount_none M z later u none_after)
  ]

module _ {S : Type 0} (M : Meaning S) (name : List ℕ) where
  -- as many checkpoints as units
  shelves_width : (t : TenantState S) (w : World) (records : List (Option Record)) (shelves : List Shelf)
      → Stands M name t w records → KeepsPast t w shelves → length shelves ≡ length w.members
  shelves_width t w records shelves s k =
      let a = (opened s).stands.1.width in
      let b = (opened s).stands.2.represents.width in
      ap length (sym (past_opened k).shelved)
      ∙ length-map t.members (λ (m : MemberOf S). shelf_of m.first_put m.unit_state)
      ∙ a
      ∙ b

  module _ (t v : TenantState S) (step : TenantStep) (log : Logged)
      (stable : (w z : World) (said : Said) → (step_open M w step said).world ≡ Some z → StaysStable w z)
      (bases : (z : World) (reply : Reply) → SameBases (λ shelves. shelves_after z step reply shelves)) where
    -- A step that leaves the log and all stable lengths as they were leaves what the rules leave.
    pub quiet_keeps : (a : Answer)
        → ((w : World) → Stands M name t w log.records → Did M name w v step a.said a.reply log log)
        → KeepsOn M name t step a.said a.reply v log.records
        → KeepsJust M name t step a.said a.reply log.records log.records
    quiet_keeps a did keeps w z shelves s e kept just =
        let d = did w s in
        let to : (step_open M w step a.said).world ≡ Some z = ap (λ (q : Outcome). q.world) e in
        let world : d.steps.0 ≡ z = same_Some d.steps.0 z (ap (λ (q : Outcome). q.world) (sym d.steps.1) ∙ to) in
        let stands : Stands M name v z log.records =
        subst (λ (y : World). Stands M name v y log.records) world d.steps.2 in
        let later = shelves_after z step a.reply shelves in
        let same = amount_stays M w z shelves later (shelves_width t w log.records shelves s kept)
        (shelves_width v z log.records later stands (keeps w z shelves s e kept)) (stable w z a.said to)
        (bases z a.reply shelves) in
        λ u. just u ∙ same u

    pub quiet_ok : {E : Type 0} (r : Result Answer E)
        → IfOk r (λ a. (w : World) → Stands M name t w log.records → Did M name w v step a.said a.reply log log)
        → IfOk r (λ a. KeepsOn M name t step a.said a.reply v log.records)
        → IfOk r (λ a. KeepsJust M name t step a.said a.reply log.records log.records)
    quiet_ok (Ok a) did keeps = quiet_keeps a did keeps
    quiet_ok (Err e) did keeps = tt

    quiet_some : (o : Option Answer)
        → IfSome o (λ a. (w : World) → Stands M name t w log.records → Did M name w v step a.said a.reply log log)
        → IfSome o (λ a. KeepsOn M name t step a.said a.reply v log.records)
        → IfSome o (λ a. KeepsJust M name t step a.said a.reply log.records log.records)
    quiet_some None did keeps = tt
    quiet_some (Some a) did keeps = quiet_keeps a did keeps

    -- So does a call with a worked turn.
    pub quiet_worked : {E : Type 0} (r : Result (Option Answer) E)
        → IfOk r (λ o. IfSome o (λ a. (w : World) → Stands M name t w log.records
        → Did M name w v step a.said a.reply log log))
        → IfOk r (λ o. IfSome o (λ a. KeepsOn M name t step a.said a.reply v log.records))
        → IfOk r (λ o. IfSome o (λ a. KeepsJust M name t step a.said a.reply log.records log.records))
    quiet_worked (Ok o) did keeps = quiet_some o did keeps
    quiet_worked (Err e) did keeps = tt

  -- such a step's checkpoints and stable lengths
  pub stays_bases : (step : TenantStep) → StepStays step → (z : World) (reply : Reply)
      → SameBases (λ shelves. shelves_after z step reply shelves)
  stays_bases step stays z reply = subst SameBases (λ i shelves. sym (stays_is step stays reply z shelves) i) same_bases

  pub stays_stable : (step : TenantStep) → StepStays step → (w z : World) (said : Said)
      → (step_open M w step said).world ≡ Some z → StaysStable w z
  stays_stable step stays w z said e = quiet_still w z M step stays said e

  pub join_stable : (kind : List ℕ) (w z : World) (said : Said)
      → (step_open M w (Join kind) said).world ≡ Some z → StaysStable w z
  join_stable kind w z said e = join_still w z M kind said e

-- ---- one unit's live records change, and the others stay

module _ {S : Type 0} (name : List ℕ) (t v : TenantState S) (before after : List (Option Record)) (u : ℕ)
    (m n : MemberOf S) (found : slice_get t.members u ≡ Some m) (set : v.members ≡ slice_set t.members u n) where
  -- Where one unit has as many live records as are behind its base, and the others' stay, all have.
  pub one_own : (HasOwn name t before → length (places_from name u 0 after) ≡ live_count n.unit_state)
      → ((a : ℕ) → (a ≡ u → ⊥) → places_from name a 0 after ≡ places_from name a 0 before)
      → HasOwn name t before → HasOwn name v after
  one_own own others has a = elim (ℕ_discrete a u) [
    | yes e ↦
        let there : slice_get v.members u ≡ Some n =
        ap (λ (ms : List (MemberOf S)). slice_get ms u) set ∙ set_get_same t.members u n m found in
        ap (λ b. length (places_from name b 0 after)) e
        ∙ own has
        ∙ ap live_of (sym there)
        ∙ ap (λ b. live_of (slice_get v.members b)) (sym e)
    | no h ↦
        ap length (others a h)
        ∙ has a
        ∙ ap live_of (sym (ap (λ (ms : List (MemberOf S)). slice_get ms a) set ∙ set_get_other t.members u a n h))
  ]

-- A tenant of which one unit changes but for what is live has just its own live records, where the log stays.
pub like_own : {S : Type 0} (name : List ℕ) (t v : TenantState S) (records : List (Option Record)) (u : ℕ)
    (m n : MemberOf S) → slice_get t.members u ≡ Some m → live_count n.unit_state ≡ live_count m.unit_state
    → v.members ≡ slice_set t.members u n → HasOwn name t records → HasOwn name v records
like_own name t v records u m n found same set = one_own name t v records records u m n found set
    (λ has. has u ∙ ap live_of found ∙ sym same) (λ a other. refl)

-- A tenant whose members stay has as many live records as it had, where the log's stay.
pub same_own : {S : Type 0} (name : List ℕ) (t v : TenantState S) (before after : List (Option Record))
    → v ≡ t → after ≡ before → HasOwn name t before → HasOwn name v after
same_own {S} name t v before after e f has u = ap (λ rs. length (places_from name u 0 rs)) f
    ∙ has u ∙ ap (λ (z : TenantState S). live_of (slice_get z.members u)) (sym e)

-- ---- a base moves

module _ {S : Type 0} (r : Recovering S) (k : IsKept r) (f base : ℕ) (next : next_base r f ≡ Some base) where
  fewer_by : (b : Bool) → (base == r.base) ≡ b
      → live_count (cond b r (based_on r base)) ≡ live_count r - (base - r.base)
  fewer_by true e =
      let same = eq_true base r.base e in
      let n = live_count r in
      let z : n ≡ n - (base - r.base) = omega (arith, same) in
      z
  fewer_by false e =
      let low = not_back r k f base next in
      let top = (next_is r f base next).1 in
      let cut = length-drop (base - r.base) r.intervals in
      omega (arith, low, top, cut)

  fewer : live_count (forgotten r base) ≡ live_count r - (base - r.base)
  fewer = fewer_by (base == r.base) refl

module _ {S : Type 0} (M : Meaning S) (name : List ℕ) (t : TenantState S) (w : World) (before after : Logged)
    (s : Stands M name t w before.records) (u : ℕ) (m : MemberOf S) (found : slice_get t.members u ≡ Some m)
    (f : ℕ) (v : TenantState S) (moved : v ≡ moved_kept t u m (next_base m.unit_state f))
    (go : LetsGo name m.unit (given_up m.unit_state (next_base m.unit_state f)) before after) where
  x : KeepsUnit t (live_in name before.records) (opened s).stands.0 u m
  x = keeps t (live_in name before.records) (opened s).stands.0 (opened s).stands.1 u m found

  abbrev r : Recovering S
  r = m.unit_state

  count_moved : (o : Option ℕ) → next_base r f ≡ o
      → live_count (moved_member m o).unit_state ≡ live_count r - given_up r o
  count_moved None e = (let n = live_count r in let z : n ≡ n - 0 = omega arith in z)
  count_moved (Some base) e = fewer r x.is.kept f base e

  -- Where a base moves and the log lets go what is before it, the tenant has just its own live records.
  pub moved_own : HasOwn name t before.records → HasOwn name v after.records
  moved_own = one_own name t v before.records after.records u m (moved_member m (next_base r f)) found
      (ap (λ (z : TenantState S). z.members) moved)
      (λ has.
      let gone = given_up r (next_base r f) in
      let left : length (places_of name m.unit after) ≡ length (places_of name m.unit before) - gone =
      ap length go.own ∙ length-drop gone (places_of name m.unit before) in
      ap (λ b. length (places_from name b 0 after.records)) (sym x.is.own)
      ∙ ap length (sym (places_are after name m.unit))
      ∙ left
      ∙ ap (λ ps. length ps - gone) (places_are before name m.unit)
      ∙ ap (λ b. length (places_from name b 0 before.records) - gone) x.is.own
      ∙ ap (λ n. n - gone) (has u ∙ ap live_of found)
      ∙ sym (count_moved (next_base r f) refl))
      (λ a other. live_same before after name a (go.others name a (λ h. other (h.1 ∙ x.is.own))))

-- ---- records are logged

module _ {S : Type 0} (M : Meaning S) (name : List ℕ) (t : TenantState S) (w : World) (before : Logged)
    (s : Stands M name t w before.records) (u : ℕ) (m : MemberOf S) (found : slice_get t.members u ≡ Some m)
    (up : is_some m.unit_state.progress ≡ true) (after : Logged) (v : TenantState S) (said : Said)
    (logged : after.records ≡ before.records ++ map Some (take said.appended m.unit_state.volatile))
    (few : said.appended ≤ length m.unit_state.volatile)
    (ended : (said.end ≡ Whole) ↔ (said.appended ≡ length m.unit_state.volatile))
    (some : said.end ≡ NoMemory → 0 < said.appended) (made : MakesStable t u said.appended m v) where
  -- A flush that logged records has just the tenant's own live records.
  pub flushed_own : HasOwn name t before.records → HasOwn name v after.records
  flushed_own =
      let o = opened s in
      one_own name t v before.records after.records u m (flushed_member m said.appended) found made.members
      (λ has.
      let own = live_own M name t w before o u m found up after v said logged few ended some made in
      let numbers = numbers_from (length o.whole) said.appended in
      let more : length (places_from name u 0 after.records) ≡ live_count m.unit_state + said.appended =
      ap length own
      ∙ length-append (live_in name before.records u) numbers
      ∙ (λ i. (has u ∙ ap live_of found) i + length-numbers (length o.whole) said.appended i) in
      let stable = (keeps t (live_in name before.records) o.stands.0 o.stands.1 u m found).is.kept.stable in
      let cut = length-drop said.appended m.unit_state.volatile in
      let count : live_count m.unit_state + said.appended ≡ live_count (marked_stable m.unit_state said.appended) =
      omega (arith, stable, cut, few) in
      more ∙ count)
      (λ a other. live_other M name t w before o u m found up after v said logged few ended some made a other)

-- ---- a unit goes back

module _ {S : Type 0} (M : Meaning S) (name : List ℕ) (t : TenantState S) (w : World) (before : Logged)
    (s : Stands M name t w before.records) (u : ℕ) (m : MemberOf S) (found : slice_get t.members u ≡ Some m)
    (target : ℕ) (it : IsTarget m.unit_state target)
    (tailed : OrphansAreTail t.table m.unit_state.intervals → m.unit_state.base < kept_length t.table m.unit_state
    → target + 1 ≡ kept_length t.table m.unit_state) where
  went_own : (v : TenantState S) (after : Logged) (a : Answer) (given : Reply)
      → Went M name t u m target given a v before after → HasOwn name t before.records → HasOwn name v after.records
  went_own v after a given wt =
      let r = m.unit_state in
      let n = live_count r in
      one_own name t v before.records after.records u m
      (returned_member m target wt.progress (length t.table + 1)) found (ap (λ (z : TenantState S). z.members) wt.back)
      (λ has.
      let all : length (places_of name u before) ≡ n = ap length (places_are before name u) ∙ has u
      ∙ ap live_of found in
      let cut = length-take (length (places_of name u before) - n + (target - r.base)) (places_of name u before) in
      let left : length (places_of name u after) ≡ min (target - r.base) n = ap length wt.own
      ∙ counts (length (take (length (places_of name u before) - n + (target - r.base)) (places_of name u before)))
      (length (places_of name u before)) n (target - r.base) cut all in
      ap length (sym (places_are after name u))
      ∙ left
      ∙ sym (went_count M name t w before (opened s) u m found target it tailed v after a given wt))
      (λ c other. live_same before after name c (wt.others name c (λ h. other h.1)))
    where
      counts : (l p n d : ℕ) → l ≡ min (p - n + d) p → p ≡ n → l ≡ min d n
      counts l p n d e f = omega (arith, e, f)

  -- A unit that went back, or whose device failed, has just the tenant's own live records.
  pub returned_own : (v : TenantState S) (after : Logged) (a : Answer) (given : Reply)
      → Returns M name t u m target given a v before after → HasOwn name t before.records → HasOwn name v after.records
  returned_own v after a given (inl wt) = went_own v after a given wt
  returned_own v after a given (inr fl) = same_own name t v before.records after.records fl.same fl.records

-- ---- which records they are

-- Where places are not empty, what the whole list has there is what the log has.
held_lists : {X : Type 0} (f : X → Record) (records : List (Option Record)) (whole : List Record)
    → IsLeftOf records whole → (places : List ℕ) (xs : List X)
    → ((i p : ℕ) → slice_get places i ≡ Some p → IsHeld records p)
    → map (slice_get whole) places ≡ map (λ x. Some (f x)) xs
    → map (slice_get records) places ≡ map (λ r. Some (Some r)) (map f xs)
held_lists f records whole left [] [] held e = refl
held_lists f records whole left [] (x ∷ xs) held e = absurd (cc e)
held_lists f records whole left (p ∷ places) [] held e = absurd (cc e)
held_lists f records whole left (p ∷ places) (x ∷ xs) held e =
    let head : slice_get whole p ≡ Some (f x) = cc in
    let tail : map (slice_get whole) places ≡ map (λ x. Some (f x)) xs = ap (drop 1) e in
    let there = held 0 p refl in
    let same : there.0 ≡ f x =
    same_Some there.0 (f x) (sym (found_whole records whole p there.0 left there.1) ∙ head) in
    let first : slice_get records p ≡ Some (Some (f x)) = there.1 ∙ ap (λ (r : Record). Some (Some r)) same in
    let rest = held_lists f records whole left places xs (λ i q g. held (suc i) q g) tail in
    λ i. first i ∷ rest i

module _ {S : Type 0} (M : Meaning S) (name : List ℕ) (t : TenantState S) (w : World) (records : List (Option Record))
    (shelves : List Shelf) (s : Stands M name t w records) (k : KeepsPast t w shelves)
    (just : HasJust M name (Some w) shelves records) where
  abbrev o : IsStanding M name t w records
  o = opened s

  live_there : (u : ℕ) (m : Member) → slice_get w.members u ≡ Some m
      → map (slice_get records) (live_in name records u)
      ≡ map (λ r. Some (Some r)) (records_if M name w (slice_get w.members u) (slice_get shelves u))
  live_there u m at =
      let width = o.stands.1.width in
      let units = o.stands.2.represents.width in
      let n = get_below t.members u (let a = slice_get_within w.members u m at in omega (arith, a, width, units)) in
      let r = n.0.unit_state in
      let x = keeps t (live_in name records) o.stands.0 o.stands.1 u n.0 n.1 in
      let here = o.stands.2.represents.units u m x.unit at x.at in
      let ready = units_are_ready M name o.stands.0 w o.whole o.stands.2 u x.unit x.at r x.is.kept x.is.seen in
      let base = (places_are_seen M r x.unit x.is.kept x.is.seen).base in
      let shelf : slice_get shelves u ≡ Some (shelf_of n.0.first_put r) =
      ap (λ ss. slice_get ss u) (sym (past_opened k).shelved)
      ∙ at_map (λ (z : MemberOf S). shelf_of z.first_put z.unit_state) t.members u n.0 n.1 in
      let own : length x.unit.live ≡ live_count r = ready.live ∙ (λ i. x.is.seen.stable i - 1 - base i) in
      let all : length (live_in name records u) ≡ live_count r =
      just_own M name t w records shelves s k just u ∙ ap live_of n.1 in
      let none : length (live_in name records u) - length x.unit.live ≡ 0 = omega (arith, own, all) in
      let same : x.unit.live ≡ live_in name records u =
      x.is.places ∙ ap (λ c. drop c (live_in name records u)) none in
      let behind : ℕ = suc r.base in
      held_lists (record_of M name w) records o.whole o.left (live_in name records u) (drop behind (stable_path m))
      (λ i p e. All-at (IsHeld records) (live_in name records u) i p (all_held name u records) e)
      (ap (map (slice_get o.whole)) (sym same) ∙ here.live
      ∙ ap (λ b. map (λ y. Some (record_of M name w y)) (drop (suc b) (stable_path m))) base)
      ∙ (λ i. map (λ r. Some (Some r)) (records_if M name w (sym at i) (sym shelf i)))

  -- Where as many records are live as the rules of keeping leave, they are those behind the units' bases.
  pub are_live : AreLive M name (Some w) shelves records
  are_live u = elim (dec_lt u (length w.members)) [
    | yes q ↦ let m = get_below w.members u q in live_there u m.0 m.1
    | no q ↦
        let none = slice_get_past w.members u (omega (arith, q)) in
        let empty : live_in name records u ≡ [] = nil_from_length (live_in name records u)
        (just u ∙ amount_none M w shelves u none) in
        ap (map (slice_get records)) empty
        ∙ ap (λ m. map (λ r. Some (Some r)) (records_if M name w m (slice_get shelves u))) (sym none)
  ]

-- The steps `restart` and `notice`.
use Rattle.std.proofs.Common.{◌≡◌, ◌^◌, inl, inr, refl, sym, ◌∙◌, ap, subst, ℕ, suc, ◌+◌, ◌-◌, ◌<◌, ◌≤◌, Bool, true}
use Rattle.std.proofs.Common.{false, cond, min, List, [], ◌∷◌, ◌++◌, length, take, drop, arith, append-nil, map}
use Rattle.std.proofs.Common.{length-set}
use Rattle.std.specs.Prelude.{MatchOption, Option, Some, None, nat_le, nat_lt, option_map, slice_get, slice_set}
use Rattle.std.specs.List.{position}
use Rattle.std.specs.Option.{is_some}
use Rattle.std.proofs.lemmas.Bool.Decides.{nat_tests}
use Rattle.std.proofs.lemmas.List.{drop-map, take-map}
use Rattle.std.proofs.lemmas.Option.{slice_get_within, same_Some}
use Rattle.model.specs.declared.limits.TheConstants.{MAX_INCARNATION}
use Rattle.model.specs.declared.names.Row.{Row}
use Rattle.model.specs.declared.names.Start.{Start}
use Rattle.model.specs.declared.records.Record.{Record}
use Rattle.model.specs.declared.refusals.Refusal.{Refusal}
use Rattle.model.specs.declared.refusals.Refusal.TheVariants.{Limit, NoUnit, Store, Up}
use Rattle.model.specs.declared.replies.End.TheVariants.{Device}
use Rattle.model.specs.declared.replies.Reply.{Reply}
use Rattle.model.specs.declared.replies.Reply.TheVariants.{Noticed, Refused, Restarted}
use Rattle.model.specs.declared.replies.Said.{Said}
use Rattle.model.specs.declared.steps.TenantStep.{TenantStep}
use Rattle.model.specs.declared.steps.TenantStep.TheVariants.{Notice, Restart}
use Rattle.model.specs.Alone.{Reachable, step_open}
use Rattle.model.specs.Alone.Reachable.{stepped}
use Rattle.model.specs.Failures.{HasRisen}
use Rattle.model.specs.Handler.{Meaning}
use Rattle.model.specs.Records.{IsHonest, quiet}
use Rattle.model.specs.Steps.{Outcome, first_refusal, is_device, notice, restart, start_of}
use Rattle.model.specs.World.{World, incarnation_of}
use Rattle.model.proofs.Places.{get_below}
use Rattle.theory.proofs.ListLaws.{get_set, set_get_other, set_get_same, true_lt}
use Rattle.shared_log.specs.Logged.{Grows, IsLeftOf, Logged, places_of}
use Rattle.shared_log.proofs.LeftLaws.{same_grows}
use Rattle.orphan.specs.Tests.{is_orphan_by}
use Rattle.compact.specs.Compact.{Compact, Interval, Progress, Snapshot, CompactUnit}
use Rattle.compact.specs.Steps.{StepResult, at_unit_of, back_state, back_unit, first_progress, kept_places}
use Rattle.compact.specs.Steps.{knowing_unit}
use Rattle.compact.specs.Steps.{notice_of, or_refused, places as all_of, rebuilt, restart_of, row_to, tests_of_back}
use Rattle.compact.specs.Steps.{with_unit_at}
use Rattle.compact.specs.StepLaws.{IsRebuilt, StandsCompact}
use Rattle.compact.proofs.Recovery.{bases_serve, notices_follow, restarts_follow, snapshots_serve}
use Rattle.rollback.specs.Units.{IsKept, IsTarget, OrphansAreTail, Recovering, cut_behind, places, restored}
use Rattle.rollback.specs.Units.{stable_places}
use Rattle.rollback.proofs.Cuts.{kept_cut}
use Rattle.rollback_laws.specs.Seen.{BeginsAt, IsReady, IsRead, IsRestored, IsSeen, shelved_as}
use Rattle.rollback_laws.proofs.Orphans.{first_orphans_are_seen}
use Rattle.rollback_laws.proofs.Places.{places_are_seen}
use Rattle.rollback_laws.proofs.Restores.{restores_are_seen}
use Rattle.rollback_laws.proofs.Standing.{units_are_ready}
use Rattle.tenant.specs.Answers.{Answer}
use Rattle.tenant.specs.Kept.{TenantState, Member, returned_kept, kept_before, kept_length, live_count, outputs_to}
use Rattle.tenant.specs.Kept.{restart_refusal, returned, returned_member, up_refusal}
use Rattle.tenant.specs.Outcomes.{failing}
use Rattle.tenant.specs.Returns.{Failed, Returns, Went}
use Rattle.tenant.specs.Stands.{Did, IsStanding, live_in}
use Rattle.tenant.specs.Represents.{AreLast, IsCompact, IsMember, Leaves}
use Rattle.tenant.proofs.Touching.{failing_asked, notice_asked, quiet_asked, restart_asked}
use Rattle.tenant.proofs.Fetching.{whole_fetched}
use Rattle.tenant.proofs.Follow.{KeepsUnit, is_up, keeps, leaves, no_unit, none_kept, not_up, with_one}
use Rattle.tenant.proofs.Killing.{hold_cut, whole_hold, few_places}
use Rattle.tenant.proofs.Lasts.{last_taken}
use Rattle.tenant.proofs.Standing.{closed}
use Rattle.tenant.proofs.Places.{live_same}
use Rattle.shared_log.proofs.PlacesLaws.{places_are}

-- ---- the first refusal

worn_first : (limit : Bool) (rest : List (Bool × Refusal))
    → limit ≡ true → first_refusal ((limit, Limit) ∷ rest) ≡ Some Limit
unfolding first_refusal
worn_first true rest e = refl
worn_first false rest e = absurd (cc e)

later_first : (b : Bool) (q : Refusal) (rest : List (Bool × Refusal))
    → b ≡ false → first_refusal ((b, q) ∷ rest) ≡ first_refusal rest
unfolding first_refusal
later_first true q rest e = absurd (cc e)
later_first false q rest e = refl

failing_first : first_refusal ((is_device failing.end, Store) ∷ []) ≡ Some Store
unfolding first_refusal
failing_first = refl

quiet_first : first_refusal ((is_device quiet.end, Store) ∷ []) ≡ None
unfolding first_refusal
quiet_first = refl

up_first : (up : Bool) (rest : List (Bool × Refusal)) → up ≡ true → first_refusal ((up, Up) ∷ rest) ≡ Some Up
unfolding first_refusal
up_first true rest e = refl
up_first false rest e = absurd (cc e)

none_or_some : {X : Type 0} (o : Option X) (x : X) → o ≡ None → o ≡ Some x → ⊥
none_or_some o x e f = cc (e, f)

passes : (up worn : Bool) → cond up (Some Up) (cond worn (Some Limit) None) ≡ None → (up ≡ false) × (worn ≡ false)
passes true worn e = absurd (cc e)
passes false true e = absurd (cc e)
passes false false e = (refl, refl)

none_true : {b : Bool} → b ≡ true → b ≡ false → ⊥
none_true e f = cc (e, f)

-- ---- numbers

spans : (kept stable base index : ℕ)
    → base ≤ index → min kept stable - 1 - base - (index - base) ≡ min kept stable - 1 - index
spans kept stable base index h = omega (arith, h)

-- A number that fails the test of being at most another is above it.
pub above : (a b : ℕ) → nat_le a b ≡ false → b < a
above a b e = grind (arith, nat_tests)

module _ {S : Type 0} (M : Meaning S) (name : List ℕ)
    (t : TenantState S) (w : World) (before : Logged) (s : IsStanding M name t w before.records) (u : ℕ) where
  abbrev whole : List Record
  whole = s.whole

  abbrev live : ℕ → List ℕ
  live = live_in name before.records

  abbrev k : Compact S
  k = s.stands.0

  pub is : IsCompact t live k
  is = s.stands.1

  pub st : StandsCompact M name k w whole
  st = s.stands.2

  -- what is left where the log took nothing
  closes : (step : TenantStep) (said : Said) (reply : Reply) (v : TenantState S) (after : Logged)
      → Leaves M name (live_in name after.records) (step_open M w step said) reply v whole
      → Grows before.records [] after.records
      → IsHonest M name w step said []
      → (said.end ≡ Device → HasRisen before.failures after.failures) → Did M name w v step said reply before after
  closes step said reply v after l grows honest device = record {
    steps = (
      l.0,
      l.1,
      closed (record {
        whole = whole;
        left = subst (λ (ws : List Record). IsLeftOf after.records ws)
            (append-nil whole) (grows whole s.left);
        stands = l.2;
      }),
    );
    logs = record { honest = ([], grows, honest); device = device };
  }

  -- what a refusal leaves, where what the store said is honest for this refusal
  refused_closes : (step : TenantStep) (said : Said) (q : Refusal) (after : Logged)
      → after.records ≡ before.records → ((step_open M w step said).reply ≡ Refused q → IsHonest M name w step said [])
      → (said.end ≡ Device → HasRisen before.failures after.failures)
      → Leaves M name (live_in name after.records) (step_open M w step said) (Refused q) t whole
      → Did M name w t step said (Refused q) before after
  refused_closes step said q after records honest device l =
      closes step said (Refused q) t after l (same_grows before.records after.records records)
      (honest (ap (λ (o : Outcome). o.reply) l.1)) device

  same_live : (after : Logged) → after.records ≡ before.records → IsCompact t (live_in name after.records) k
  same_live after e = subst (λ (rs : List (Option Record)). IsCompact t (live_in name rs) k) (sym e) is

  reach_restart : (said : Said) (z : World) → (restart w u said).world ≡ Some z → Reachable M z
  reach_restart said z f = stepped (record { step = Restart u; said = said }) st.reached f

  reach_notice : (said : Said) (z : World) → (notice w u said).world ≡ Some z → Reachable M z
  reach_notice said z f = stepped (record { step = Notice u; said = said }) st.reached f

  some_progress : Progress S
  some_progress = first_progress M 0 (record { unit = 0; kind = 0; home = 0 })

  unchanged : Grows before.records [] before.records
  unchanged = same_grows before.records before.records refl

  -- ---- a unit that is not there

  pub restart_no_unit : slice_get t.members u ≡ None → Did M name w t (Restart u) quiet (Refused NoUnit) before before
  restart_no_unit e =
      closes (Restart u) quiet (Refused NoUnit) t before
      (leaves M name live whole
      (restart w u quiet) (reach_restart quiet) _ (record { reply = Refused NoUnit; state = k })
      (restarts_follow M name k w whole st u quiet
      some_progress (λ x at none. absurd (none_or_some (slice_get k.units u) x (none_kept t live k is u e) at)))
      (no_unit t live k is u (restart_of k u quiet some_progress) e) t is)
      unchanged (quiet_asked _) (λ f. absurd (cc f))

  -- ---- one that is there

  module _ (m : Member S) (found : slice_get t.members u ≡ Some m) where
    pub x : KeepsUnit t live k u m
    x = keeps t live k is u m found

    abbrev r : Recovering S
    r = m.unit_state

    -- what a notice does where it cuts, and where it cuts nothing
    abbrev going : Said → Progress S → StepResult S
    going said progress = or_refused k (record {
      reply = Noticed (Some (start_of (row_to k u (kept_places k x.unit))));
      state = back_state k u x.unit progress;
    }) (first_refusal (tests_of_back k u said))

    abbrev staying : StepResult S
    staying = record { reply = Noticed None; state = with_unit_at k u (knowing_unit k x.unit) }

    only : (P : CompactUnit S → Type 0) → P x.unit → (y : CompactUnit S) → slice_get k.units u ≡ Some y → P y
    only P p y at = subst P (same_Some x.unit y (sym x.at ∙ at)) p

    -- refused whatever the store said
    module _ (said : Said) (q : Refusal) (after : Logged) (records : after.records ≡ before.records)
        (device : said.end ≡ Device → HasRisen before.failures after.failures) where
      pub restart_refused : ((restart w u said).reply ≡ Refused q → IsHonest M name w (Restart u) said [])
          → first_refusal ((x.unit.up, Up) ∷ tests_of_back k u said) ≡ Some q
          → Did M name w t (Restart u) said (Refused q) before after
      restart_refused honest e =
          refused_closes (Restart u) said q after records honest device
          (leaves M name (live_in name after.records)
          whole (restart w u said) (reach_restart said) _ (record { reply = Refused q; state = k })
          (restarts_follow M name k w whole st u said some_progress
          (λ y at none. absurd (none_or_some (first_refusal ((x.unit.up, Up) ∷ tests_of_back k u said)) q
          (ap (λ (z : CompactUnit S). first_refusal ((z.up, Up) ∷ tests_of_back k u said))
          (same_Some x.unit y (sym x.at ∙ at))
          ∙ none) e)))
          (ap (at_unit_of k (restart_of k u said some_progress)) x.at
          ∙ ap (or_refused k _) e) t (same_live after records))

      pub notice_refused : ((notice w u said).reply ≡ Refused q → IsHonest M name w (Notice u) said [])
          → is_some r.progress ≡ true → kept_places k x.unit < all_of x.unit
          → first_refusal (tests_of_back k u said) ≡ Some q → Did M name w t (Notice u) said (Refused q) before after
      notice_refused honest up cut e =
          refused_closes (Notice u) said q after records honest device
          (leaves M name (live_in name after.records)
          whole (notice w u said) (reach_notice said) _ (record { reply = Refused q; state = k })
          (notices_follow M name k w whole st u said some_progress
          (λ y at less none. absurd (none_or_some (first_refusal (tests_of_back k u said)) q none e)))
          (is_up t live k is u (notice_of k u said some_progress) m x up ∙ ap (λ b. cond b (going said some_progress)
          staying) (true_lt (kept_places k x.unit) (all_of x.unit) cut) ∙ ap (or_refused k _) e)
          t (same_live after records))

    -- ---- it goes back

    module _ (target : ℕ) (it : IsTarget r target)
        (tailed : OrphansAreTail t.table r.intervals → r.base < kept_length t.table r
        → target + 1 ≡ kept_length t.table r) where
      ready : IsReady r k x.unit
      ready = units_are_ready M name k w whole st u x.unit x.at r x.is.kept x.is.seen

      long : all_of x.unit ≡ places r
      long = (places_are_seen M r x.unit x.is.kept x.is.seen).long

      kept_is : kept_length k.table r ≡ kept_places k x.unit
      kept_is =
          let firm = ready.firm_base in
          go (option_map (λ i. r.base + i) (position (λ (v : Interval). is_orphan_by k.table v.vector) r.intervals))
          (first_orphans_are_seen M r x.unit x.is.kept x.is.seen k (omega (arith, firm)) ready.front ready.clean _ refl)
        where
          go : (o : Option ℕ) → MatchOption o (kept_places k x.unit ≡ all_of x.unit)
              (λ first. kept_places k x.unit ≡ first) → kept_before o (places r) ≡ kept_places k x.unit
          go None h = sym (h ∙ long)
          go (Some first) h = sym h

      -- its base is kept
      based : r.base < kept_length t.table r
      based =
          let low = ready.target.base in
          let one = ready.last in
          let all = kept_is in
          subst (λ rows. r.base < kept_length rows r) is.table (omega (arith, low, one, all))

      pub last : target + 1 ≡ kept_places k x.unit
      last = tailed (subst (λ (rows : List Row). OrphansAreTail rows r.intervals) is.table ready.tail) based
          ∙ ap (λ rows. kept_length rows r) (sym is.table) ∙ kept_is

      -- the path ends there
      pub all_kept : places r ≤ target + 1 → nat_lt (kept_places k x.unit) (all_of x.unit) ≡ false
      all_kept h = let a = last in
          let b = long in no_less (kept_places k x.unit) (all_of x.unit) (target + 1) (places r) a b h
        where
          no_less : (n l q p : ℕ) → q ≡ n → l ≡ p → p ≤ q → nat_lt n l ≡ false
          no_less n l q p a b h = let c : l ≤ n = omega (arith, a, b, h) in grind (arith, nat_tests)

      pub some_cut : target + 1 < places r → kept_places k x.unit < all_of x.unit
      some_cut h = let a = last in
          let b = long in less (kept_places k x.unit) (all_of x.unit) (target + 1) (places r) a b h
        where
          less : (n l q p : ℕ) → q ≡ n → l ≡ p → q < p → n < l
          less n l q p a b h = omega (arith, a, b, h)

      module _ (v : TenantState S)
          (after : Logged) (a : Answer) (given : Reply) (wt : Went M name t u m target given a v before after) where
        abbrev fetched : List Record
        fetched = wt.replayed.0

        b : (f : Snapshot S) × BeginsAt r k x.unit target f
            × ((log fetched : List Record) → length x.unit.live ≡ x.unit.stable - 1 - x.unit.base.index
            → IsRead k x.unit log f fetched → IsRestored M r k x.unit log target fetched)
        b = restores_are_seen M r x.unit x.is.kept x.is.seen k target it last

        base_is : x.unit.base.index ≡ r.base
        base_is = (places_are_seen M r x.unit x.is.kept x.is.seen).base

        base_low : x.unit.base.index ≤ b.0.index
        base_low = elim b.1.there [
          | inl e ↦ let q : b.0.index ≡ x.unit.base.index = ap (λ (z : Snapshot S). z.index) e in omega (arith, q)
          | inr e ↦
              let width = st.represents.width in
              let mw =
              get_below w.members u (let c = slice_get_within k.units u x.unit x.at in omega (arith, c, width)) in
              let q = (st.represents.units u mw.0 x.unit mw.1 x.at).shelf.behind e.0 b.0 e.1 in
              omega (arith, q)
        ]

        own_count : length x.unit.live ≡ live_count r
        own_count = ready.live ∙ (λ i. x.is.seen.stable i - 1 - base_is i)

        live_is : drop (length (places_of name u before) - live_count r) (places_of name u before) ≡ x.unit.live
        live_is = (λ i. drop (length (places_are before name u i) - sym own_count i) (places_are before name u i))
            ∙ sym x.is.places

        read : IsRead k x.unit whole b.0 fetched
        read =
            let f = slice_get whole in
            let d = b.0.index - r.base in
            let n = min (target + 1) (stable_places r) - 1 - r.base - d in
            let behind = drop (length (places_of name u before) - live_count r) (places_of name u before) in
            let low : r.base ≤ b.0.index = (let p = base_low in let q = base_is in omega (arith, p, q)) in
            let dropped : d ≡ b.0.index - x.unit.base.index = ap (λ z. b.0.index - z) (sym base_is) in
            let count : n ≡ min (kept_places k x.unit) x.unit.stable - 1 - b.0.index =
            spans (target + 1) (stable_places r) r.base b.0.index low
            ∙ (λ i. min (last i) (sym x.is.seen.stable i) - 1 - b.0.index) in
            whole_fetched before.records
            whole s.left (take n (drop d behind)) fetched (wt.replayed.1 (shelved_as b.0) b.1.nearest)
            ∙ sym (take-map f n (drop d behind))
            ∙ ap (take n) (sym (drop-map f d behind))
            ∙ (λ i. take (count i) (drop (dropped i) (map f (live_is i))))

        back : IsRestored M r k x.unit whole target fetched
        back = b.2 whole fetched ready.live read

        abbrev p : Progress S
        p = back.progress

        progress_is : wt.progress ≡ (restored M r target (length k.units) fetched).progress
        progress_is = wt.replayed.2 ∙ ap (λ n. (restored M r target n fetched).progress) is.width

        abbrev row : Row
        row = record { unit = u; incarnation = incarnation_of t.table u + 1; start = target + 1 }

        abbrev q : Member S
        q = returned_member m target wt.progress (length t.table + 1)

        abbrev after_unit : CompactUnit S
        after_unit = back_unit k x.unit p

        seen_after : IsSeen (returned r target wt.progress) after_unit
        seen_after =
            subst (λ (o : Option (Progress S)). IsSeen (returned r target o) after_unit) (sym progress_is) back.seen

        kept_after : IsKept (returned r target wt.progress)
        kept_after =
            let c = kept_cut r target (cut_behind r target).outside (cut_behind r target).intervals
            (cut_behind r target).volatile (cut_behind r target).shelf x.is.kept it refl refl refl refl in
            record {
              base = c.base;
              stable = c.stable;
              few = c.few;
              top = c.top;
              rises = c.rises;
              marks = c.marks;
              outside = c.outside;
            }

        -- The unit that went back has as many live records as are behind its base up to the target.
        pub went_count : live_count (returned r target wt.progress) ≡ min (target - r.base) (live_count r)
        went_count = counts (stable_places (returned r target wt.progress)) x.unit.stable (stable_places r)
            (kept_places k x.unit) target r.base (sym seen_after.stable) x.is.seen.stable last
          where
            counts : (s a b n target base : ℕ) → s ≡ min a n → a ≡ b → target + 1 ≡ n
                → s - 1 - base ≡ min (target - base) (b - 1 - base)
            counts s a b n target base e f g = omega (arith, e, f, g)

        live_own : AreLast after_unit.live (live_in name after.records u)
        live_own =
            let count : target - r.base ≡ kept_places k x.unit - suc x.unit.base.index =
            counts target r.base (kept_places k x.unit) x.unit.base.index last base_is in
            let taken = last_taken x.unit.live (live u) (target - r.base) x.is.places in
            let now : take (length (live u) - length x.unit.live + (target - r.base))
            (live u) ≡ live_in name after.records u =
            (λ i. take (length (sym (places_are before name u) i) - own_count i + (target - r.base))
            (sym (places_are before name u) i)) ∙ sym wt.own ∙ places_are after name u in
            subst (λ (n : ℕ). AreLast (take n x.unit.live) (live_in name after.records u)) count
            (subst (λ (ps : List ℕ). AreLast (take (target - r.base) x.unit.live) ps) now taken)
          where
            counts : (target base kept index : ℕ) → target + 1 ≡ kept → index ≡ base → target - base ≡ kept - suc index
            counts target base kept index e f = omega (arith, e, f)

        live_other : (c : ℕ) → (c ≡ u → ⊥) → live_in name after.records c ≡ live c
        live_other c other = live_same before after name c (wt.others name c (λ h. other h.1))

        row_is : row_to k u (kept_places k x.unit) ≡ row
        row_is = λ i. record { unit = u; incarnation = incarnation_of (is.table i) u + 1; start = sym last i }

        hold_after : after_unit.hold ≡ q.outputs
        hold_after =
            let few : places r ≤ 2 ^ 32 = x.is.kept.few in
            let path = it.path in
            hold_cut x.unit.hold (kept_places k x.unit) (all_of x.unit) (whole_hold M name k w whole st u x.unit x.at)
            (low (kept_places k x.unit) (all_of x.unit) target (places r) last long path)
            (few_places (all_of x.unit) (places r) long few)
            ∙ (λ i. outputs_to (x.is.outputs i) (sym last i))
          where
            low : (n l target p : ℕ) → target + 1 ≡ n → l ≡ p → target < p → n ≤ l
            low n l target p e f h = omega (arith, e, f, h)

        abbrev v2 : TenantState S
        v2 = returned_kept t u m target (incarnation_of t.table u + 1) wt.progress

        one : IsMember v2 (live_in name after.records) u q after_unit
        one = record {
          kept = kept_after;
          seen = seen_after;
          own = x.is.own;
          outputs = hold_after;
          known = ap (λ rows. length rows + 1) is.table;
          stable = set_get_same t.stable_lengths u (stable_places (returned r target wt.progress))
              x.unit.stable x.is.stable ∙ ap (λ n. Some n) (sym seen_after.stable);
          frontier = x.is.frontier;
          released = x.is.released;
          places = live_own;
        }

        abbrev state : Compact S
        state = back_state k u x.unit p

        width_is : length (slice_set k.units u after_unit) ≡ length k.units
        width_is = length-set k.units u after_unit

        is_after : IsCompact v2 (live_in name after.records) state
        is_after = record {
          quota = is.quota;
          optimism = is.optimism;
          table = λ i. is.table i ++ row_is i ∷ [];
          width = length-set t.members u q ∙ is.width ∙ sym width_is;
          stables = length-set t.stable_lengths u (stable_places (returned r target wt.progress))
              ∙ is.stables ∙ sym width_is;
          fronts = is.fronts ∙ sym width_is;
          counts = is.counts ∙ sym width_is;
          lines = is.lines ∙ sym width_is;
          members = λ c n z atn atz. elim (get_set t.members u c q n atn) [
            | inl e ↦ elim (get_set k.units u c after_unit z atz) [
              | inl f ↦ own_stands c n z e.0 e.1 f.1
              | inr f ↦ absurd (f.0 e.0)
            ]
            | inr e ↦ elim (get_set k.units u c after_unit z atz) [
              | inl f ↦ absurd (e.0 f.0)
              | inr f ↦ other_stands c n z e.0 (is.members c n z e.1 f.1)
            ]
          ];
          letters = is.letters;
        }
          where
            own_stands : (c : ℕ) (n : Member S) (z : CompactUnit S)
                → c ≡ u → n ≡ q → z ≡ after_unit → IsMember v2 (live_in name after.records) c n z
            own_stands c n z e f g =
                subst (λ (z : CompactUnit S). IsMember v2 (live_in name after.records) c n z) (sym g)
                (subst (λ (n : Member S). IsMember v2 (live_in name after.records) c n after_unit) (sym f)
                (subst (λ (c : ℕ). IsMember v2 (live_in name after.records) c q after_unit) (sym e) one))

            other_stands : (c : ℕ) (n : Member S) (z : CompactUnit S)
                → (c ≡ u → ⊥) → IsMember t live c n z → IsMember v2 (live_in name after.records) c n z
            other_stands c n z other i = record {
              kept = i.kept;
              seen = i.seen;
              own = i.own;
              outputs = i.outputs;
              known = i.known;
              stable =
                  set_get_other t.stable_lengths u c (stable_places (returned r target wt.progress)) other ∙ i.stable;
              frontier = i.frontier;
              released = i.released;
              places = subst (λ (ps : List ℕ). AreLast z.live ps) (sym (live_other c other)) i.places;
            }

        start_is : start_of (row_to k u (kept_places k x.unit)) ≡ record {
          incarnation = incarnation_of t.table u + 1;
          index = target + 1;
        }
        start_is = λ i. start_of (row_is i)

        not_device : quiet.end ≡ Device → HasRisen before.failures after.failures
        not_device f = absurd (cc f)

        no_refusal : nat_le MAX_INCARNATION (incarnation_of t.table u) ≡ false
            → first_refusal (tests_of_back k u quiet) ≡ None
        no_refusal room = later_first (nat_le MAX_INCARNATION (incarnation_of k.table u))
            Limit _ (ap (λ rows. nat_le MAX_INCARNATION (incarnation_of rows u)) is.table ∙ room) ∙ quiet_first

        to_answer : (step : TenantStep) (reply : Reply) → reply ≡ given
            → Did M name w v2 step quiet reply before after → Did M name w v step a.said a.reply before after
        to_answer step reply e d =
            subst (λ (z : Said). Did M name w v step z a.reply before after) (sym wt.said)
            (subst (λ (z : Reply). Did M name w v step quiet z before after) (e ∙ sym wt.reply)
            (subst (λ (z : TenantState S). Did M name w z step quiet reply before after) (sym wt.back) d))

        pub restart_done : x.unit.up ≡ false → nat_le MAX_INCARNATION (incarnation_of t.table u) ≡ false
            → Restarted (record { incarnation = incarnation_of t.table u + 1; index = target + 1 }) ≡ given
            → Did M name w v (Restart u) a.said a.reply before after
        restart_done down room reply =
            to_answer (Restart u) _ reply
            (closes (Restart u)
            quiet (Restarted (record { incarnation = incarnation_of t.table u + 1; index = target + 1 })) v2 after
            (leaves M name (live_in name after.records)
            whole (restart w u quiet) (reach_restart quiet) _ (record {
              reply = Restarted
                  (record { incarnation = incarnation_of t.table u + 1; index = target + 1 });
              state = state;
            })
            (restarts_follow M name k w whole st u quiet p (λ y at none. only
            (λ (z : CompactUnit S). IsRebuilt M k z whole p) back.rebuilt y at))
            (ap (at_unit_of k (restart_of k u quiet p)) x.at ∙ ap (or_refused k _) (later_first x.unit.up Up _ down
            ∙ no_refusal room) ∙ (λ i. record { reply = Restarted (start_is i); state = state }))
            v2 is_after)
            wt.grows (quiet_asked _) not_device)

        pub notice_done : is_some r.progress ≡ true
            → target + 1 < places r → nat_le MAX_INCARNATION (incarnation_of t.table u) ≡ false
            → Noticed (Some (record { incarnation = incarnation_of t.table u + 1; index = target + 1 })) ≡ given
            → Did M name w v (Notice u) a.said a.reply before after
        notice_done up cut room reply =
            to_answer (Notice u) _ reply
            (closes (Notice u) quiet
            (Noticed (Some (record { incarnation = incarnation_of t.table u + 1; index = target + 1 }))) v2 after
            (leaves M name (live_in name after.records)
            whole (notice w u quiet) (reach_notice quiet) _ (record {
              reply = Noticed (Some
                  (record { incarnation = incarnation_of t.table u + 1; index = target + 1 }));
              state = state;
            })
            (notices_follow M name k w whole st u quiet p (λ y at less none. only
            (λ (z : CompactUnit S). IsRebuilt M k z whole p) back.rebuilt y at))
            (is_up t live k is u (notice_of k u quiet p) m x up ∙ ap (λ c. cond c (going quiet p) staying) (true_lt
            (kept_places k x.unit) (all_of x.unit) (some_cut cut)) ∙ ap (or_refused k _) (no_refusal room)
            ∙ (λ i. record { reply = Noticed (Some (start_is i)); state = state }))
            v2 is_after)
            wt.grows (quiet_asked _) not_device)

      failed : (step : TenantStep) (v : TenantState S) (after : Logged) (a : Answer) → Failed t a v before after
          → Did M name w t step failing (Refused Store) before after → Did M name w v step a.said a.reply before after
      failed step v after a fl d =
          subst (λ (z : Said). Did M name w v step z a.reply before after) (sym fl.said)
          (subst (λ (z : Reply). Did M name w v step failing z before after) (sym fl.reply)
          (subst (λ (z : TenantState S). Did M name w z step failing (Refused Store) before after) (sym fl.same) d))

      -- whether it went, or the device failed
      pub restart_returns : restart_refusal t.table u (Some m) ≡ None → (start : Start) → start ≡ record {
        incarnation =
            incarnation_of t.table u + 1;
        index = target + 1;
      } → (v : TenantState S) (after : Logged) (a : Answer)
          → Returns M name t u m target (Restarted start) a v before after
          → Did M name w v (Restart u) a.said a.reply before after
      restart_returns none start e v after a (inl wt) =
          let f = passes (is_some r.progress) (nat_le MAX_INCARNATION (incarnation_of t.table u)) none in
          restart_done v after a (Restarted start) wt (x.is.seen.up ∙ f.0) f.1 (ap Restarted (sym e))
      restart_returns none start e v after a (inr fl) =
          let f = passes (is_some r.progress) (nat_le MAX_INCARNATION (incarnation_of t.table u)) none in
          failed (Restart u) v after a fl (restart_refused
          failing Store after fl.records (λ d. fl.device) (λ is. failing_asked _ (restart_asked w u failing is))
          (later_first x.unit.up Up _ (x.is.seen.up ∙ f.0)
          ∙ later_first (nat_le MAX_INCARNATION (incarnation_of k.table u))
          Limit _ (ap (λ rows. nat_le MAX_INCARNATION (incarnation_of rows u)) is.table ∙ f.1) ∙ failing_first))

      -- A notice that cuts the path does what the definitions say, whether or not the device fails.
      pub notice_returns : is_some r.progress ≡ true → target + 1 < places r
          → nat_le MAX_INCARNATION (incarnation_of t.table u) ≡ false → (start : Start) → start ≡ record {
            incarnation =
                incarnation_of t.table u + 1;
            index = target + 1;
          } → (v : TenantState S) (after : Logged) (a : Answer)
          → Returns M name t u m target (Noticed (Some start)) a v before after
          → Did M name w v (Notice u) a.said a.reply before after
      notice_returns up cut room start e v after a (inl wt) =
          notice_done v after a (Noticed (Some start)) wt up cut room (ap (λ z. Noticed (Some z)) (sym e))
      notice_returns up cut room start e v after a (inr fl) =
          failed (Notice u) v after a fl (notice_refused failing Store after
          fl.records (λ d. fl.device) (λ is. failing_asked _ (notice_asked w u failing is)) up (some_cut cut)
          (later_first (nat_le MAX_INCARNATION (incarnation_of k.table u))
          Limit _ (ap (λ rows. nat_le MAX_INCARNATION (incarnation_of rows u)) is.table ∙ room) ∙ failing_first))

      -- A notice that would cut the path is refused where the unit has no incarnation left.
      pub notice_worn : is_some r.progress ≡ true
          → target + 1 < places r → nat_le MAX_INCARNATION (incarnation_of t.table u) ≡ true
          → Did M name w t (Notice u) quiet (Refused Limit) before before
      notice_worn up cut worn = notice_refused quiet Limit before refl (λ f. absurd (cc f))
          (λ is. quiet_asked _) up (some_cut cut) (worn_first (nat_le MAX_INCARNATION (incarnation_of k.table u))
          _ (ap (λ rows. nat_le MAX_INCARNATION (incarnation_of rows u)) is.table ∙ worn))

      -- it keeps all, and learns the rows
      pub notice_learns : is_some r.progress ≡ true → places r ≤ target + 1
          → Did M name w (record t { members = slice_set t.members u (record m { known = length t.table }) })
          (Notice u) quiet (Noticed None) before before
      notice_learns up whole_path =
          let learned : Member S = record m { known = length t.table } in
          closes (Notice u) quiet (Noticed None) (record t { members = slice_set t.members u learned }) before
          (leaves M name live whole (notice w u quiet) (reach_notice quiet)
          _ (record { reply = Noticed None; state = with_unit_at k u (knowing_unit k x.unit) })
          (notices_follow M name k w whole st u quiet some_progress (λ y at less none. absurd (not_cut y at less)))
          (is_up t live k is u (notice_of k u quiet some_progress) m x up
          ∙ ap (λ c. cond c (going quiet some_progress) staying) (all_kept whole_path))
          (record t { members = slice_set t.members u learned })
          (with_one t live k is u learned (knowing_unit k x.unit) (record {
            kept = x.is.kept;
            seen = record {
              seat = x.is.seen.seat;
              up = x.is.seen.up;
              now = x.is.seen.now;
              stable = x.is.seen.stable;
              outside = x.is.seen.outside;
              base = x.is.seen.base;
              shelf = x.is.seen.shelf;
              intervals = x.is.seen.intervals;
              volatile = x.is.seen.volatile;
            };
            own = x.is.own;
            outputs = x.is.outputs;
            known = ap length is.table;
            stable = x.is.stable;
            frontier = x.is.frontier;
            released = x.is.released;
            places = x.is.places;
          })))
          unchanged (quiet_asked _) (λ f. absurd (cc f))
        where
          not_cut : (y : CompactUnit S) → slice_get k.units u ≡ Some y → kept_places k y < all_of y → ⊥
          not_cut y at less =
              let e = same_Some x.unit y (sym x.at ∙ at) in
              let h : kept_places k x.unit < all_of x.unit =
              subst (λ (z : CompactUnit S). kept_places k z < all_of z) (sym e) less in
              none_true (true_lt (kept_places k x.unit) (all_of x.unit) h) (all_kept whole_path)

  -- A restart that is refused whatever the store says is refused as the definitions say.
  pub restart_refused_by : (q : Refusal) → restart_refusal t.table u (slice_get t.members u) ≡ Some q
      → Did M name w t (Restart u) quiet (Refused q) before before
  restart_refused_by q e = go (slice_get t.members u) refl e
    where
      limited : (m : Member S) (found : slice_get t.members u ≡ Some m) (up worn : Bool)
          → is_some m.unit_state.progress ≡ up
          → nat_le MAX_INCARNATION (incarnation_of t.table u) ≡ worn
          → cond up (Some Up) (cond worn (Some Limit) None) ≡ Some q
          → Did M name w t (Restart u) quiet (Refused q) before before
      limited m found true worn a b f = restart_refused m found
          quiet q before refl (λ d. absurd (cc d)) (λ is. quiet_asked _) (up_first _ _ ((x m found).is.seen.up ∙ a) ∙ f)
      limited m found false true a b f =
          restart_refused m found quiet q before refl (λ d. absurd (cc d)) (λ is. quiet_asked _)
          (later_first _ Up _ ((x m found).is.seen.up ∙ a)
          ∙ worn_first _ _ (ap (λ rows. nat_le MAX_INCARNATION (incarnation_of rows u)) is.table ∙ b) ∙ f)
      limited m found false false a b f = absurd (cc f)

      go : (o : Option (Member S)) → slice_get t.members u ≡ o
          → restart_refusal t.table u o ≡ Some q → Did M name w t (Restart u) quiet (Refused q) before before
      go None a f = subst (λ (z : Refusal). Did M name w t (Restart u) quiet (Refused z) before before)
          (same_Some NoUnit q f) (restart_no_unit a)
      go (Some m) a f =
          limited m a (is_some m.unit_state.progress) (nat_le MAX_INCARNATION (incarnation_of t.table u)) refl refl f

  -- a notice to a unit that is not there or not up
  pub notice_not_up : (q : Refusal)
      → up_refusal (slice_get t.members u) ≡ Some q → Did M name w t (Notice u) quiet (Refused q) before before
  notice_not_up q e = go (slice_get t.members u) refl
    where
      refused : (progress : Progress S) → ((y : CompactUnit S) → slice_get k.units u ≡ Some y
          → IsRebuilt M k y whole progress)
          → Did M name w t (Notice u) quiet (Refused q) before before
      refused progress rebuilds =
          closes (Notice u) quiet (Refused q) t before
          (leaves M name live whole (notice w u quiet) (reach_notice quiet) _ (record { reply = Refused q; state = k })
          (notices_follow M name k w whole st u quiet progress (λ y at less none. rebuilds y at))
          (not_up t live k is u (notice_of k u quiet progress) q e) t is)
          unchanged (quiet_asked _) (λ f. absurd (cc f))

      go : (o : Option (Member S))
          → slice_get t.members u ≡ o → Did M name w t (Notice u) quiet (Refused q) before before
      go None a =
          refused some_progress (λ y at. absurd (none_or_some (slice_get k.units u) y (none_kept t live k is u a) at))
      go (Some m) a =
          let y = (x m a).unit in
          let served = snapshots_serve
          M name k w whole st u y (x m a).at y.base (inl refl) (bases_serve M name k w whole st u y (x m a).at) in
          let p = rebuilt M k y y.base served.0 in
          refused p (λ z at. only m a
          (λ (z : CompactUnit S). IsRebuilt M k z whole p) (y.base, (served.0, served.1, refl)) z at)

-- The step `flush`.
use Rattle.std.proofs.Common.{◌<◌, ◌≡◌, inl, inr, refl, sym, ◌∙◌, ap, subst, ℕ, suc, ◌+◌, ◌-◌, ◌≤◌, Bool, true, false}
use Rattle.std.proofs.Common.{cond, min, List, [], ◌∷◌, ◌++◌, length, take, drop, arith, map, length-set, append-nil}
use Rattle.std.specs.Prelude.{Option, Some, None, slice_get, slice_set, ◌↔◌}
use Rattle.std.specs.Option.{is_some}
use Rattle.std.proofs.lemmas.List.{length-map, length-take-le}
use Rattle.std.proofs.lemmas.Option.{slice_get_within, same_Some}
use Rattle.model.specs.declared.records.Record.{Record}
use Rattle.model.specs.declared.refusals.Refusal.{Refusal}
use Rattle.model.specs.declared.refusals.Refusal.TheVariants.{Down}
use Rattle.model.specs.declared.replies.End.TheVariants.{Device, Memory as NoMemory, Whole}
use Rattle.model.specs.declared.replies.Reply.TheVariants.{Refused}
use Rattle.model.specs.declared.replies.Said.{Said}
use Rattle.model.specs.declared.steps.TenantStep.TheVariants.{Flush}
use Rattle.model.specs.Alone.{Reachable}
use Rattle.model.specs.Alone.Reachable.{stepped}
use Rattle.model.specs.Failures.{HasRisen}
use Rattle.model.specs.Handler.{Meaning}
use Rattle.model.specs.Lists.{numbers_from}
use Rattle.model.specs.Records.{FlushesUnit, record_of, volatile_records, quiet}
use Rattle.model.specs.Steps.{flush, flush_reply}
use Rattle.model.specs.World.{World, Member as MemberOf}
use Rattle.model.proofs.Places.{get_below}
use Rattle.theory.proofs.Certificate.{reachable_invariant}
use Rattle.theory.proofs.ListLaws.{at_map, get_set, get_take, get_drop, map_at}
use Rattle.shared_log.specs.Logged.{Logged, places_from}
use Rattle.shared_log.proofs.LeftLaws.{appended_grows, same_grows}
use Rattle.compact.specs.Compact.{Compact, CompactUnit}
use Rattle.compact.specs.Steps.{at_up_of, flush_of, flushed_unit, going_on, lengths_of, refronted, places as all_of}
use Rattle.compact.specs.Steps.{with_unit_at}
use Rattle.compact.specs.StepLaws.{StandsCompact}
use Rattle.compact.proofs.Flushes.{flushes_follow}
use Rattle.rollback.specs.Units.{IsKept, Recovering, marked_stable, stable_places}
use Rattle.rollback.proofs.StaysKept.{kept_marked}
use Rattle.rollback_laws.specs.Seen.{IsSeen}
use Rattle.rollback_laws.proofs.Failures.{flushes_are_seen, frontiers_are_seen}
use Rattle.rollback_laws.proofs.Places.{places_are_seen}
use Rattle.rollback_laws.proofs.Standing.{units_are_ready}
use Rattle.unit_steps.specs.Receipts.{IsFrontier, frontier_of}
use Rattle.unit_steps.proofs.Seen.{frontiers_go_on}
use Rattle.tenant.specs.Kept.{MakesStable, TenantState, Member, flushed_member, up_refusal}
use Rattle.tenant.specs.Stands.{Did, IsStanding, live_in}
use Rattle.tenant.specs.Represents.{IsReleased, AreLast, IsCompact, IsMember}
use Rattle.tenant.proofs.Follow.{KeepsUnit, is_up, keeps, leaves, not_up}
use Rattle.tenant.proofs.Lasts.{last_more}
use Rattle.tenant.proofs.Places.{own_places, other_places, owns, owns_not, places_behind, left_length}
use Rattle.tenant.proofs.Widths.{widths}
use Rattle.tenant.proofs.Standing.{closed}

-- two lists of the same elements
same_list : {X : Type 0} (xs ys : List X)
    → length xs ≡ length ys → ((i : ℕ) (x y : X) → slice_get xs i ≡ Some x → slice_get ys i ≡ Some y → x ≡ y) → xs ≡ ys
same_list [] [] e h = refl
same_list [] (y ∷ ys) e h = absurd (cc e)
same_list (x ∷ xs) [] e h = absurd (cc e)
same_list (x ∷ xs) (y ∷ ys) e h = let rest = same_list xs ys (omega (arith, e)) (λ j a b p q. h (suc j) a b p q) in
    λ i. h 0 x y refl refl i ∷ rest i

module _ {S : Type 0} (M : Meaning S) (name : List ℕ)
    (t : TenantState S) (w : World) (before : Logged) (s : IsStanding M name t w before.records) (u : ℕ) where
  abbrev whole : List Record
  whole = s.whole

  abbrev live : ℕ → List ℕ
  live = live_in name before.records

  abbrev k : Compact S
  k = s.stands.0

  is : IsCompact t live k
  is = s.stands.1

  st : StandsCompact M name k w whole
  st = s.stands.2

  reach : (said : Said) (z : World) → (flush w u said).world ≡ Some z → Reachable M z
  reach said z f = stepped (record { step = Flush u; said = said }) st.reached f

  -- ---- a unit that is not there or not up

  refused_honest : (r : Refusal)
      → up_refusal (slice_get t.members u) ≡ Some r → FlushesUnit M name w quiet [] (slice_get w.members u)
  refused_honest r e = go (slice_get w.members u) refl
    where
      no_refusal : (b : Bool) → b ≡ true → cond b None (Some Down) ≡ Some r → ⊥
      no_refusal true e f = cc f
      no_refusal false e f = cc e

      go : (o : Option MemberOf) → slice_get w.members u ≡ o → FlushesUnit M name w quiet [] o
      go None f = (refl, refl, refl)
      go (Some m) f = (
        (λ up.
            let width = st.represents.width in
            let wide = is.width in
            let q = get_below t.members u (let a = slice_get_within w.members u m f in omega (arith, a, width, wide)) in
            let x = keeps t live k is u q.0 q.1 in
            let b : is_some q.0.unit_state.progress ≡ true =
            sym x.is.seen.up ∙ (st.represents.units u m x.unit f x.at).up ∙ up in
            absurd (no_refusal (is_some q.0.unit_state.progress) b (ap up_refusal (sym q.1) ∙ e))),
        (λ down. (refl, refl, refl)),
      )

  -- A flush of a unit that isn't there or isn't up is refused, and changes nothing.
  pub flush_refused : (r : Refusal)
      → up_refusal (slice_get t.members u) ≡ Some r → Did M name w t (Flush u) quiet (Refused r) before before
  flush_refused r e =
      let same = same_grows before.records before.records refl in
      let l = leaves M name live (whole ++ []) (flush w u quiet) (reach quiet) _
      (record { reply = Refused r; state = k }) (flushes_follow M name k w whole [] st u quiet (refused_honest r e))
      (not_up t live k is u (flush_of k u quiet (length whole)) r e) t is in
      record {
        steps = (l.0, l.1, closed (record { whole = whole ++ []; left = same whole s.left; stands = l.2 }));
        logs = record { honest = ([], same, refused_honest r e); device = λ f. absurd (cc f) };
      }

  -- ---- one that is up

  module _ (m : Member S) (found : slice_get t.members u ≡ Some m)
      (up : is_some m.unit_state.progress ≡ true) (after : Logged) (v : TenantState S) (said : Said)
      (logged : after.records ≡ before.records ++ map Some (take said.appended m.unit_state.volatile))
      (few : said.appended ≤ length m.unit_state.volatile)
      (ended : (said.end ≡ Whole) ↔ (said.appended ≡ length m.unit_state.volatile))
      (some : said.end ≡ NoMemory → 0 < said.appended) (f : MakesStable t u said.appended m v) where
    abbrev r : Recovering S
    r = m.unit_state

    abbrev grown : List Record
    grown = take said.appended r.volatile

    x : KeepsUnit t live k u m
    x = keeps t live k is u m found

    mw : (q : MemberOf) × (slice_get w.members u ≡ Some q)
    mw = get_below w.members u (let width = st.represents.width in
        let a = slice_get_within k.units u x.unit x.at in omega (arith, a, width))

    volatile_is : r.volatile ≡ volatile_records M name w mw.0
    volatile_is = sym x.is.seen.volatile ∙ (st.represents.units u mw.0 x.unit mw.1 x.at).volatile

    honest : FlushesUnit M name w said grown (slice_get w.members u)
    honest = subst (FlushesUnit M name w said grown) (sym mw.1) (
      (λ _. record {
        first = ap (take said.appended) volatile_is;
        within = subst (λ (vs : List Record). said.appended ≤ length vs) volatile_is few;
        whole = subst (λ (vs : List Record). (said.end ≡ Whole) ↔ (said.appended ≡ length vs)) volatile_is ended;
        some = some;
      }),
      (λ down. absurd (down (sym (st.represents.units u mw.0 x.unit mw.1 x.at).up ∙ x.is.seen.up ∙ up))),
    )

    abbrev y : CompactUnit S
    y = flushed_unit (length whole) said.appended x.unit

    abbrev units : List (CompactUnit S)
    units = slice_set k.units u y

    abbrev lengths : List ℕ
    lengths = lengths_of (with_unit_at k u y)

    abbrev state : Compact S
    state = refronted (with_unit_at k u y)

    done_is : at_up_of k (flush_of k u said (length whole)) (slice_get k.units u) ≡ record {
      reply =
          flush_reply said.end said.appended;
      state = state;
    }
    done_is =
        let unstable = (places_are_seen M r x.unit x.is.kept x.is.seen).unstable in
        let count : min said.appended (all_of x.unit - x.unit.stable) ≡ said.appended = omega (arith, few, unstable) in
        is_up t live k is u (flush_of k u said (length whole)) m x up
        ∙ ap (λ c. record {
          reply = flush_reply said.end c;
          state = refronted (with_unit_at k u (flushed_unit (length whole) c x.unit));
        }) count

    seen_y : IsSeen (marked_stable r said.appended) y
    seen_y = flushes_are_seen M r x.unit x.is.kept x.is.seen (length whole) said.appended few

    -- ---- stable lengths

    lengths_are : lengths ≡ v.stable_lengths
    lengths_are = same_list lengths v.stable_lengths
        (length-map units (λ (z : CompactUnit S). z.stable) ∙ length-set k.units u y ∙ sym is.stables
        ∙ sym (length-set t.stable_lengths u (stable_places (flushed_member m said.appended).unit_state))
        ∙ sym (ap length f.stable_lengths))
        (λ i a b ea eb.
        let h = map_at (λ (z : CompactUnit S). z.stable) units i a ea in
        let eb' : slice_get (slice_set t.stable_lengths u (stable_places (flushed_member m said.appended).unit_state))
        i ≡ Some b = ap (λ ls. slice_get ls i) (sym f.stable_lengths) ∙ eb in
        h.2 ∙ elim (get_set k.units u i y h.0 h.1) [
          | inl p ↦
              elim (get_set t.stable_lengths u i (stable_places (flushed_member m said.appended).unit_state) b eb') [
                | inl q ↦ ap (λ (z : CompactUnit S). z.stable) p.1 ∙ seen_y.stable ∙ sym q.1
                | inr q ↦ absurd (q.0 p.0)
              ]
          | inr p ↦
              elim (get_set t.stable_lengths u i (stable_places (flushed_member m said.appended).unit_state) b eb') [
                | inl q ↦ absurd (p.0 q.0)
                | inr q ↦
                    let wide = is.width in
                    let n =
                    get_below t.members i (let c = slice_get_within k.units i h.0 p.1 in omega (arith, c, wide)) in
                    same_Some h.0.stable b (sym (is.members i n.0 h.0 n.1 p.1).stable ∙ q.1)
              ]
        ])

    width_is : length state.units ≡ length k.units
    width_is = length-map units (going_on k.table lengths) ∙ length-set k.units u y

    -- ---- live records

    are_own : (i : ℕ) (q : Record) → slice_get grown i ≡ Some q → (q.tenant ≡ name) × (q.unit ≡ u)
    are_own i q e =
        let a = get_take r.volatile said.appended i q e in
        let b = map_at (record_of M name w)
        (drop mw.0.stable mw.0.path) i q (ap (λ vs. slice_get vs i) (sym volatile_is) ∙ a.0) in
        let own = ((reachable_invariant M st.reached).chain.sound.units u mw.0 mw.1).own
        (mw.0.stable + i) b.0 (get_drop mw.0.path mw.0.stable i b.0 b.1) in
        (ap (λ (z : Record). z.tenant) b.2, ap (λ (z : Record). z.unit) b.2 ∙ own)

    -- The live places of the unit that is flushed have those of the records that were logged behind them.
    pub live_own : live_in name after.records u ≡ live u ++ numbers_from (length whole) said.appended
    live_own =
        let long : length grown ≡ said.appended = length-take-le said.appended r.volatile few in
        let left = left_length before.records whole s.left in
        let from : 0 + length before.records ≡ length whole = omega (arith, left) in
        ap (places_from name u 0) logged
        ∙ places_behind name u 0 before.records (map Some grown)
        ∙ ap (λ ps. live u ++ ps) (own_places name u (0 + length before.records) grown (λ i q e. let o =
        are_own i q e in owns name u q o.0 o.1) ∙ (λ i. numbers_from (from i) (long i)))

    -- The live places of the tenant's other units stay as they were.
    pub live_other : (a : ℕ) → (a ≡ u → ⊥) → live_in name after.records a ≡ live a
    live_other a other =
        ap (places_from name a 0) logged
        ∙ places_behind name a 0 before.records (map Some grown)
        ∙ ap (λ ps. live a ++ ps) (other_places name a (0 + length before.records) grown (λ i q e. let o =
        are_own i q e in owns_not name a q (λ _ unit. other (sym unit ∙ o.1))))
        ∙ append-nil (live a)

    -- ---- each unit

    front_is : (a : ℕ) (z : CompactUnit S)
        → slice_get k.units a ≡ Some z → (q : Recovering S) → IsKept q → IsSeen q z → (p : Recovering S)
        → p.base ≡ q.base → p.intervals ≡ q.intervals → IsFrontier (length v.stable_lengths) p z.frontier
    front_is a z at q kept seen p base path =
        let ready = units_are_ready M name k w whole st a z at q kept seen in
        let all = places_are_seen M q z kept seen in
        let b = ready.firm_base in
        let c = ready.front in
        let d = all.base in
        let e = all.long in
        let wide : length k.units ≡ length v.stable_lengths =
        sym (length-map units (λ (z : CompactUnit S). z.stable) ∙ length-set k.units u y) ∙ ap length lengths_are in
        let long : length p.intervals ≡ length q.intervals = ap length path in
        record {
          base = omega (arith, b, d, base);
          path = low z.frontier (all_of z)
              (q.base + length q.intervals) p.base q.base (length p.intervals) (length q.intervals) c e base long refl;
          vectors =
              widths M name k w whole st a z at p.intervals (seen.intervals ∙ sym path) (length v.stable_lengths) wide;
        }
      where
        low : (f n l b c i j : ℕ) → f ≤ n → n ≡ l → b ≡ c → i ≡ j → l ≡ c + j → f ≤ b + i
        low f n l b c i j h e g o q = omega (arith, h, e, g, o, q)

    gone : (a : ℕ) (n : Member S) (z : CompactUnit S)
        → slice_get v.members a ≡ Some n → IsKept n.unit_state → IsSeen n.unit_state z
        → n.unit ≡ a → z.hold ≡ n.outputs → z.known ≡ n.known → slice_get v.stable_lengths a ≡ Some z.stable
        → slice_get t.frontiers a ≡ Some z.frontier → IsFrontier (length v.stable_lengths) n.unit_state z.frontier
        → IsReleased (slice_get t.gone a) (slice_get t.released a) z.released
        → AreLast z.live (live_in name after.records a)
        → IsMember v (live_in name after.records) a n (going_on k.table lengths z)
    gone a n z at kept seen own outputs known stable front is_front released places_live = record {
      kept = kept;
      seen = frontiers_are_seen M n.unit_state z seen k.table lengths;
      own = own;
      outputs = outputs;
      known = known;
      stable = stable;
      frontier = f.frontiers a n z.frontier at front is_front
          ∙ ap (λ c. Some c) (sym (frontiers_go_on M n.unit_state z kept seen k.table lengths
          ∙ (λ i. frontier_of (is.table i) (lengths_are i) n.unit_state z.frontier)));
      released = (
        released.0,
        released.1,
        ap (λ ns. slice_get ns a) f.gone ∙ released.2,
        ap (λ ls. slice_get ls a) f.released ∙ released.3,
        released.4,
      );
      places = places_live;
    }

    is_after : IsCompact v (live_in name after.records) state
    is_after = record {
      quota = is.quota ∙ sym f.quota;
      optimism = is.optimism ∙ sym f.optimism;
      table = is.table ∙ sym f.table;
      width = ap length f.members ∙ length-set t.members u (flushed_member m said.appended) ∙ is.width ∙ sym width_is;
      stables = sym (ap length lengths_are)
          ∙ length-map units (λ (z : CompactUnit S). z.stable) ∙ length-set k.units u y ∙ sym width_is;
      fronts = f.fronts ∙ is.fronts ∙ sym width_is;
      counts = ap length f.gone ∙ is.counts ∙ sym width_is;
      lines = ap length f.released ∙ is.lines ∙ sym width_is;
      members = λ a n z atn atz.
          let h = map_at (going_on k.table lengths) units a z atz in
          let own : slice_get (slice_set t.members u (flushed_member m said.appended)) a ≡ Some n =
          ap (λ ms. slice_get ms a) (sym f.members) ∙ atn in
          let stable_at : slice_get v.stable_lengths a ≡ Some h.0.stable =
          ap (λ ls. slice_get ls a) (sym lengths_are) ∙ at_map (λ (z : CompactUnit S). z.stable) units a h.0 h.1 in
          subst (λ (z : CompactUnit S). IsMember v (live_in name after.records) a n z)
          (sym h.2) (elim (get_set t.members u a (flushed_member m said.appended) n own) [
            | inl p ↦ elim (get_set k.units u a y h.0 h.1) [
              | inl q ↦ own_stands a n h.0 p.0 p.1 q.1 atn stable_at
              | inr q ↦ absurd (q.0 p.0)
            ]
            | inr p ↦ elim (get_set k.units u a y h.0 h.1) [
              | inl q ↦ absurd (p.0 q.0)
              | inr q ↦
                  let i = is.members a n h.0 p.1 q.1 in
                  gone a n h.0 atn i.kept i.seen i.own i.outputs i.known stable_at
                  i.frontier (front_is a h.0 q.1 n.unit_state i.kept i.seen n.unit_state refl refl) i.released
                  (subst (λ (ps : List ℕ). AreLast h.0.live ps) (sym (live_other a p.0)) i.places)
            ]
          ]);
      letters = is.letters ∙ sym f.letters;
    }
      where
        own_stands : (a : ℕ) (n : Member S) (z : CompactUnit S) → a ≡ u → n ≡ flushed_member m said.appended
            → z ≡ y → slice_get v.members a ≡ Some n → slice_get v.stable_lengths a ≡ Some z.stable
            → IsMember v (live_in name after.records) a n (going_on k.table lengths z)
        own_stands a n z e g h at stable_at =
            subst (λ (z : CompactUnit S). IsMember v (live_in name after.records) a n (going_on k.table lengths z))
            (sym h)
            (subst (λ (n : Member S). IsMember v (live_in name after.records) a n (going_on k.table lengths y)) (sym g)
            (subst (λ (a : ℕ). IsMember v (live_in name after.records)
            a (flushed_member m said.appended) (going_on k.table lengths y)) (sym e)
            (gone u (flushed_member m said.appended) y (ap (slice_get v.members) (sym e) ∙ at
            ∙ ap (λ z. Some z) g) (kept_marked r (drop said.appended r.volatile) said.appended x.is.kept refl)
            seen_y x.is.own x.is.outputs x.is.known
            (ap (slice_get v.stable_lengths) (sym e) ∙ stable_at ∙ ap (λ (z : CompactUnit S). Some z.stable) h)
            x.is.frontier
            (front_is u x.unit x.at r x.is.kept x.is.seen (marked_stable r said.appended) refl refl) x.is.released
            (subst (λ (ps : List ℕ). AreLast (x.unit.live ++ numbers_from (length whole) said.appended) ps)
            (sym live_own)
            (last_more x.unit.live (live u) (numbers_from (length whole) said.appended) x.is.places)))))

    -- A flush of a unit that is up does what the definitions say for what the store took.
    pub flush_done : (said.end ≡ Device → HasRisen before.failures after.failures)
        → Did M name w v (Flush u) said (flush_reply said.end said.appended) before after
    flush_done device =
        let grows = appended_grows before.records after.records grown logged in
        let l = leaves M name (live_in name after.records) (whole ++ grown)
        (flush w u said) (reach said) _ (record { reply = flush_reply said.end said.appended; state = state })
        (flushes_follow M name k w whole grown st u said honest) done_is v is_after in
        record {
          steps = (l.0, l.1, closed (record { whole = whole ++ grown; left = grows whole s.left; stands = l.2 }));
          logs = record { honest = (grown, grows, honest); device = device };
        }

-- A node that is not firm can go by a kill, a restart and a notice at most; and a release leaves just what is firm
-- released.
use Rattle.std.proofs.Common.{◌≡◌, ◌≢◌, inl, inr, refl, sym, ◌∙◌, ap, subst, ℕ, zero, suc, ◌+◌, ◌-◌, ◌<◌, ◌≤◌, Bool}
use Rattle.std.proofs.Common.{true, false, cond, not, max, ◌||◌, List, [], ◌∷◌, ◌++◌, length, take, drop, arith, map}
use Rattle.std.proofs.Common.{length-take, ne_eqb}
use Rattle.std.specs.Prelude.{Some, None, slice_get, slice_set, ◌==◌, nat_lt, nat_le}
use Rattle.std.specs.List.{take_while, list_all, list_any, flat_map}
use Rattle.std.proofs.lemmas.List.Sums.{take_while-cons}
use Rattle.std.proofs.lemmas.Option.{slice_get_within, same_Some}
use Rattle.std.proofs.lemmas.Bool.Decides.{nat_tests}
use Rattle.std.proofs.lemmas.List.{length-map}
use native.Mathlib.Decide.{dec_lt, ℕ_discrete}
use Rattle.model.specs.declared.limits.TheConstants.{MAX_INCARNATION}
use Rattle.model.specs.declared.names.Row.{Row}
use Rattle.model.specs.declared.refusals.Refusal.{Refusal}
use Rattle.model.specs.declared.steps.TenantStep.TheVariants.{Kill, Restart, Notice, Release}
use Rattle.model.specs.Handler.{Meaning}
use Rattle.model.specs.Lists.{has, from_end}
use Rattle.model.specs.Nodes.{node_at, past, begun, DependsOn}
use Rattle.model.specs.World.{World, Member, executed, is_orphan, is_stable, is_firm, incarnation_of, held}
use Rattle.model.specs.World.{path_outputs, releasable}
use Rattle.model.specs.Records.{quiet}
use Rattle.model.specs.Steps.{Outcome, first_refusal, outcome_or, unless, at_up, with_member, gone_back, path_kept}
use Rattle.model.specs.Steps.{row_for, fresh, kill, restart, notice, notice_orphan, notice_rows, release, is_down}
use Rattle.model.specs.Steps.{going_back_tests, with_place, flushed, killed, back_at, with_known, with_released}
use Rattle.model.specs.Alone.{Event, step, step_open, course_from, Reachable}
use Rattle.model.specs.Alone.Reachable.{opened, stepped}
use Rattle.model.proofs.Places.{get_below, at_unit_found}
use Rattle.theory.proofs.Counts.{first_counted}
use Rattle.theory.specs.Laws.{firm_outputs, CanGo, HeldCanGo, NotFirmCanGo, ReleaseIsWhole}
use Rattle.theory.proofs.ListLaws.{bool_cases, has_at, eq_same, set_get_same, set_get_other, get_set, get_append}
use Rattle.theory.proofs.ListLaws.{get_take, get_take_while, take_while_passes, append_get_last, map_at, or_left}
use Rattle.theory.proofs.ListLaws.{or_right, true_lt, take_while_le, not_true, get_append_any}
use Rattle.theory.proofs.Pasts.{depends_le, past_depends}
use Rattle.theory.proofs.Changes.{Change, Passed, step_changes, new_seat}
use Rattle.theory.proofs.Changes.Change.{unchanged, receives, flushes, dies, goes_back, learns, releases, joins}
use Rattle.theory.proofs.Invariants.{Sound}
use Rattle.theory.proofs.Firm.{stands_stable}
use Rattle.theory.proofs.Fronts.{path_rises}
use Rattle.theory.proofs.RowLaws.{Loses}
use Rattle.theory.proofs.Chain.{Chain, not_orphan_safe}
use Rattle.theory.proofs.Chain.Whereabouts.{on_path, lost, cut_off}
use Rattle.theory.proofs.ChainKept.{chain_back, chain_change}
use Rattle.theory.proofs.Released.{pairs_seconds, pairs_of, pairs_front, Closed, firm_closed, release_all}
use Rattle.theory.proofs.Certificate.{Invariant, reachable_invariant}

-- ---- what the steps do

passed_none : (tests : List (Bool × Refusal)) → Passed tests → first_refusal tests ≡ None
unfolding first_refusal
passed_none [] h = refl
passed_none (t ∷ tests) h = rw h.0 (passed_none tests h.1)

unless_pass : (w : World) (tests : List (Bool × Refusal)) (out : Outcome) → Passed tests → unless w tests out ≡ out
unless_pass w tests out h = ap (outcome_or w out) (passed_none tests h)

-- A step at a unit that is there and up does what is to be done with it.
pub at_up_found : (w : World) (u : ℕ) (f : Member → Outcome) (m : Member)
    → slice_get w.members u ≡ Some m → m.up ≡ true → at_up w u f ≡ f m
unfolding at_up
at_up_found w u f m e up = at_unit_found w u _ m e ∙ unless_pass w (is_down m ∷ []) (f m) (ap not up, tt)

kill_does : (w : World) (u : ℕ) (m : Member)
    → slice_get w.members u ≡ Some m → m.up ≡ true → (kill w u).world ≡ Some (with_member w u (killed m))
kill_does w u m found up = ap (λ o. o.world) (at_up_found w u _ m found up)

restart_does : (w : World) (u : ℕ) (m : Member)
    → slice_get w.members u ≡ Some m → m.up ≡ false → nat_le MAX_INCARNATION (incarnation_of w.table u) ≡ false
    → (restart w u quiet).world ≡ Some (gone_back w u m (path_kept w m))
restart_does w u m found down room =
    ap (λ o. o.world) (at_unit_found w u _ m found ∙ unless_pass w _ _ (down, (room, (refl, tt))))

notice_does : (w : World) (u : ℕ) (m : Member)
    → slice_get w.members u ≡ Some m → m.up ≡ true → nat_le MAX_INCARNATION (incarnation_of w.table u) ≡ false
    → length (path_kept w m) < length m.path → (notice w u quiet).world ≡ Some (gone_back w u m (path_kept w m))
notice_does w u m found up room less =
    let goes : (cond (nat_lt (length (path_kept w m)) (length m.path))
    (notice_orphan w u quiet m) (notice_rows w u m)).world ≡ Some (gone_back w u m (path_kept w m)) =
    rw (true_lt (length (path_kept w m)) (length m.path) less)
    (ap (λ o. o.world) (unless_pass w (going_back_tests w u quiet) _ (room, (refl, tt)))) in
    ap (λ o. o.world) (at_up_found w u _ m found up) ∙ goes

-- ---- down

-- a unit that is down has nothing volatile
abbrev DownCut : World → Type 0
DownCut w = (u : ℕ) (m : Member) → slice_get w.members u ≡ Some m → m.up ≡ false → length m.path ≤ m.stable

down_set : (members : List Member) (u : ℕ) (q : Member) → ((x : ℕ) (m : Member) → slice_get members x ≡ Some m
    → m.up ≡ false → length m.path ≤ m.stable) → (q.up ≡ false → length q.path ≤ q.stable)
    → (x : ℕ) (m : Member) → slice_get (slice_set members u q) x ≡ Some m → m.up ≡ false → length m.path ≤ m.stable
down_set members u q h new x m f = elim (get_set members u x q m f) [ inl k ↦ rw k.1 new | inr k ↦ h x m k.1 ]

-- ---- limits

-- no unit's incarnation is past the last
abbrev Limited : World → Type 0
Limited w = (u : ℕ) → incarnation_of w.table u ≤ MAX_INCARNATION

room_left : (k : ℕ) → k ≤ MAX_INCARNATION → k ≢ MAX_INCARNATION → nat_le MAX_INCARNATION k ≡ false
room_left k le other = grind (arith, nat_tests)

row_limited : (rows : List Row) (r : Row) (u most : ℕ)
    → incarnation_of rows u ≤ most → r.incarnation ≤ most → incarnation_of (rows ++ r ∷ []) u ≤ most
row_limited [] r u most h k = go (r.unit == u)
  where
    go : (b : Bool) → cond b (max r.incarnation 0) 0 ≤ most
    go true = omega arith
    go false = h
row_limited (q ∷ rows) r u most h k = go (q.unit == u) h (λ t. row_limited rows r u most t k)
  where
    go : (b : Bool) → cond b (max q.incarnation (incarnation_of rows u)) (incarnation_of rows u) ≤ most
        → (incarnation_of rows u ≤ most → incarnation_of (rows ++ r ∷ []) u ≤ most)
        → cond b (max q.incarnation (incarnation_of (rows ++ r ∷ []) u)) (incarnation_of (rows ++ r ∷ []) u) ≤ most
    go true t rest = let z = rest (omega arith) in omega arith
    go false t rest = rest t

-- ---- the node goes

not_has : (path : List ℕ) (x : ℕ) → ((i : ℕ) → ¬ (slice_get path i ≡ Some x)) → has path x ≡ false
not_has path x h = elim (bool_cases (has path x)) [ inr e ↦ e | inl e ↦ let t = has_at path x e in absurd (h t.0 t.1) ]

-- a node that depends on a lost one is not kept
not_kept : (w : World) → Sound w → (m : Member) (x y : ℕ) → x < length w.nodes
    → DependsOn w.nodes x y → Loses w.table (node_at w.nodes y) → (i : ℕ) → ¬ (slice_get (path_kept w m) i ≡ Some x)
not_kept w s m x y h d l i e =
    let safe = not_true _ (take_while_passes (λ z. not (is_orphan w.nodes w.table z)) m.path i x e) in
    not_orphan_safe w.nodes w.table s.placed x y h safe d l

kept_shorter : (p : ℕ → Bool) (path : List ℕ) (i x : ℕ) → slice_get path i ≡ Some x
    → ((j : ℕ) → ¬ (slice_get (take_while p path) j ≡ Some x)) → length (take_while p path) < length path
kept_shorter p path i x e h = elim (dec_lt (length (take_while p path)) (length path)) [
  | yes q ↦ q
  | no q ↦
      let within = slice_get_within path i x e in
      let g = get_below (take_while p path) i (omega arith) in
      let t = get_take_while p path i g.0 g.1 in
      absurd (h i (g.1 ∙ sym t.0 ∙ e))
]

module _ {S : Type 0} (M : Meaning S) where
  down_change : {v w : World} → DownCut v → Change M v w → DownCut w
  down_change h unchanged = h
  down_change {v} h (receives u m cause found up may) =
      down_set v.members u (with_place m (length v.nodes)) h (λ e. absurd (cc (e, up)))
  down_change {v} h (flushes u k m found g) =
      down_set v.members u (flushed m k) h (λ e. let t = h u m found e in omega arith)
  down_change {v} h (dies u m found) =
      down_set v.members u (killed m) h (λ e. let t = length-take m.stable m.path in omega arith)
  down_change {v} h (goes_back u m found room) =
      down_set v.members u (back_at m (path_kept v m) (length v.table + 1)) h (λ e. absurd (cc e))
  down_change {v} h (learns u m found g) = down_set v.members u (with_known m (length v.table)) h (λ e. h u m found e)
  down_change {v} h (releases u m found) =
      down_set v.members u (with_released m (map (λ o. o.1) (releasable M v m))) h (λ e. h u m found e)
  down_change {v} h (joins kind room) = λ x n f. elim (get_append
      v.members (fresh (new_seat (length v.members + 1) v kind) (length v.nodes) (length v.table)) n x f) [
        | inl k ↦ h x n k
        | inr k ↦ rw k.1 (λ e. absurd (cc e))
      ]

  reachable_down : {w : World} → Reachable M w → DownCut w
  reachable_down {w} (opened e h) = λ u m f q. let t = (first_counted M e.step w h).all_up u m f in absurd (cc (t, q))
  reachable_down {w} (stepped {v = v} e r h) = down_change (reachable_down r) (step_changes M v w e.step e.said h)

  limited_change : {v w : World} → Limited v → Change M v w → Limited w
  limited_change h unchanged = h
  limited_change h (receives u m cause found up may) = h
  limited_change h (flushes u k m found g) = h
  limited_change h (dies u m found) = h
  limited_change {v} h (goes_back u m found room) = λ x.
      row_limited v.table (row_for v u (path_kept v m)) x MAX_INCARNATION (h x)
      (let t : incarnation_of v.table u < MAX_INCARNATION = grind (arith, nat_tests) in omega arith)
  limited_change h (learns u m found g) = h
  limited_change h (releases u m found) = h
  limited_change h (joins kind room) = h

  -- In a world that can be reached, no unit's incarnation is above 65,535.
  pub reachable_limited : {w : World} → Reachable M w → Limited w
  reachable_limited {w} (opened e h) = λ u. rw ((first_counted M e.step w h).no_rows) (omega arith)
  reachable_limited {w} (stepped {v = v} e r h) =
      limited_change (reachable_limited r) (step_changes M v w e.step e.said h)

  -- one notice, where the past has a lost node
  notice_goes : (w : World) → Sound w → (u : ℕ) (m : Member)
      → slice_get w.members u ≡ Some m → m.up ≡ true → nat_le MAX_INCARNATION (incarnation_of w.table u) ≡ false
      → (i x y : ℕ) → slice_get m.path i ≡ Some x → DependsOn w.nodes x y → Loses w.table (node_at w.nodes y)
      → (z : World) × ((notice w u quiet).world ≡ Some z)
      × ((n : Member) × (slice_get z.members u ≡ Some n) × (has n.path x ≡ false))
  notice_goes w s u m found up room i x y on d l =
      let h = (s.units u m found).made i x on in
      let off = not_kept w s m x y h d l in (
        gone_back w u m (path_kept w m),
        notice_does w u m found up room (kept_shorter _ m.path i x on off),
        (
          back_at m (path_kept w m) (length w.table + 1),
          set_get_same w.members u _ m found,
          not_has (path_kept w m) x off,
        ),
      )

  -- a restart, after which the node is lost
  restart_goes : (w : World) → Chain w → (u v : ℕ) (m q : Member)
      → u ≢ v → slice_get w.members u ≡ Some m → m.up ≡ true → nat_le MAX_INCARNATION (incarnation_of w.table u) ≡ false
      → slice_get w.members v ≡ Some q → q.up ≡ false → nat_le MAX_INCARNATION (incarnation_of w.table v) ≡ false
      → (i x y : ℕ) → slice_get m.path i ≡ Some x → DependsOn w.nodes x y
      → y < length w.nodes → (node_at w.nodes y).unit ≡ v → length q.path ≤ (node_at w.nodes y).index
      → (z : World) × ((course_from M (Some w) (record {
        step = Restart v;
        said = quiet;
      } ∷ record { step = Notice u; said = quiet } ∷ [])).world ≡ Some z)
      × ((n : Member) × (slice_get z.members u ≡ Some n) × (has n.path x ≡ false))
  restart_goes w c u v m q other found up room found' down room' i x y on d yin own past_end =
      let next = gone_back w v q (path_kept w q) in
      let does = restart_does w v q found' down room' in
      let sound' : Sound next = (chain_change' c).sound in
      let row = row_for w v (path_kept w q) in
      let r = c.reached y yin in
      let less : length (path_kept w q) ≤ length q.path = take_while_le _ q.path in
      let loses : Loses (w.table ++ row ∷ []) (node_at w.nodes y) = record {
        at_place = length w.table;
        row = row;
        found = append_get_last w.table row;
        of_unit = sym own;
        later = let t = ap (incarnation_of w.table) own in omega arith;
        before = omega arith;
      } in
      let same : incarnation_of (w.table ++ row ∷ []) u ≡ incarnation_of w.table u =
      other_row w.table row u (λ e. other (sym e)) in
      let g = notice_goes next sound' u m (set_get_other w.members v u _ other
      ∙ found) up (rw same room) i x y on d loses in
      (g.0, ap (λ o. (course_from M o (record { step = Notice u; said = quiet } ∷ [])).world) does ∙ g.1, g.2)
    where
      chain_change' : Chain w → Chain (gone_back w v q (path_kept w q))
      chain_change' c = chain_back M w c v q found' room'

      other_row : (rows : List Row) (row : Row) (u : ℕ)
          → row.unit ≢ u → incarnation_of (rows ++ row ∷ []) u ≡ incarnation_of rows u
      other_row [] row u h = rw (ne_eqb row.unit u h) refl
      other_row (r ∷ rows) row u h = rw (other_row rows row u h) refl

  abbrev Goes : World → ℕ → ℕ → List Event → Type 0
  Goes w u x events = (z : World) × ((course_from M (Some w) events).world ≡ Some z)
      × ((n : Member) × (slice_get z.members u ≡ Some n) × (has n.path x ≡ false))

  -- a kill, after which the node is off the path
  kill_goes : (w : World) → Sound w → (u : ℕ) (m : Member) → slice_get w.members u ≡ Some m
      → m.up ≡ true → (i k x y : ℕ) → slice_get m.path i ≡ Some x → slice_get m.path k ≡ Some y → m.stable ≤ k → y ≤ x
      → Goes w u x (record { step = Kill u; said = quiet } ∷ [])
  kill_goes w s u m found up i k x y on on' high le =
      let g = s.units u m found in
      let late : m.stable ≤ i = elim (dec_lt i m.stable) [
        | no q ↦ omega arith
        | yes q ↦ absurd (let t = path_rises s.placed g i k x y on on' (omega arith) in omega arith)
      ] in
      let q : Member = killed m in (
        with_member w u q,
        kill_does w u m found up,
        (
          q,
          set_get_same w.members u q m found,
          not_has (take m.stable m.path) x (λ j e.
              let t = get_take m.path m.stable j x e in
              let same : j ≡ i = sym (g.indexed j x t.0) ∙ g.indexed i x on in absurd (let z = t.1 in omega arith)),
        ),
      )

  -- a node that is not firm can go
  not_firm_goes : (w : World) → Chain w
      → DownCut w → ((y : ℕ) → y < length w.members → nat_le MAX_INCARNATION (incarnation_of w.table y) ≡ false)
      → (u : ℕ) (m : Member) → slice_get w.members u ≡ Some m → m.up ≡ true
      → (i x y : ℕ) → slice_get m.path i ≡ Some x
      → DependsOn w.nodes x y → is_stable w.members y ≡ false → CanGo M w u x
  not_firm_goes w c down rooms u m found up i x y on d lax =
      let s = c.sound in
      let le = depends_le s.placed d in
      let xin = (s.units u m found).made i x on in
      let yin : y < length w.nodes = omega arith in
      let v = (node_at w.nodes y).unit in
      let vin = c.owned y yin in
      let q = (get_below w.members v vin).0 in
      let found' = (get_below w.members v vin).1 in
      let room = rooms u (slice_get_within w.members u m found) in
      let room' = rooms v vin in
      let mine : u ≡ v → m ≡ q = λ e. same_Some m q (sym found ∙ ap (slice_get w.members) e ∙ found') in
      elim ((c.units v q found').whereabouts y yin refl) [
        | lost l ↦ (
          record { step = Notice u; said = quiet } ∷ [],
          record {
            kills = omega arith;
            restarts = omega arith;
            notices = omega arith;
          },
          (refl, refl, tt),
          notice_goes w s u m found up room i x y on d l,
        )
        | cut_off dn high ↦ (
          record { step = Restart v; said = quiet } ∷ record { step = Notice u; said = quiet } ∷ [],
          record { kills = omega arith; restarts = omega arith; notices = omega arith },
          (refl, refl, (refl, refl, tt)),
          restart_goes w c u v m q (λ e. absurd (let t = ap (λ z. z.up) (mine e) in cc (t, dn, up)))
              found up room found' dn room' i x y on d yin refl high,
        )
        | on_path e ↦
            let high = not_stable_high w y v q (node_at w.nodes y).index found' e lax in
            elim (bool_cases q.up) [
              | inr dn ↦ absurd (let t = down v q found' dn in
                  let z = slice_get_within q.path (node_at w.nodes y).index y e in omega arith)
              | inl qup ↦ elim (ℕ_discrete u v) [
                | yes z ↦ (
                  record { step = Kill u; said = quiet } ∷ [],
                  record { kills = omega arith; restarts = omega arith; notices = omega arith },
                  (refl, refl, tt),
                  kill_goes w s u m found up
                      i (node_at w.nodes y).index x y on (ap (λ n. slice_get n.path (node_at w.nodes y).index) (mine z)
                      ∙ e) (let t = ap (λ n. n.stable) (mine z) in omega arith) le,
                )
                | no z ↦ three v q vin found' e high qup z room room' yin
              ]
            ]
      ]
    where
      not_stable_high : (w : World) (y v : ℕ) (q : Member) (k : ℕ)
          → slice_get w.members v ≡ Some q → slice_get q.path k ≡ Some y → is_stable w.members y ≡ false → q.stable ≤ k
      not_stable_high w y v q k f e lax = elim (dec_lt k q.stable) [
        | no z ↦ omega arith
        | yes z ↦ absurd (let t = stands_stable w.members
            y (record { unit = v; member = q; place = k; found = f; on_path = e; logged = z }) in cc (t, lax))
      ]

      three : (v : ℕ) (q : Member)
          → v < length w.members → slice_get w.members v ≡ Some q → slice_get q.path (node_at w.nodes y).index ≡ Some y
          → q.stable ≤ (node_at w.nodes y).index → q.up ≡ true → u ≢ v
          → nat_le MAX_INCARNATION (incarnation_of w.table u) ≡ false
          → nat_le MAX_INCARNATION (incarnation_of w.table v) ≡ false → y < length w.nodes → CanGo M w u x
      three v q vin found' e high qup other room room' yin =
          let cut : Member = killed q in
          let next = with_member w v cut in
          let c' : Chain next = chain_change M c (dies v q found') in
          let own : (node_at w.nodes y).unit ≡ v = (c.sound.units v q found').own (node_at w.nodes y).index y e in
          let short : length cut.path ≤ (node_at w.nodes y).index =
          let t = length-take q.stable q.path in omega arith in
          let g = restart_goes next c' u v m cut other (set_get_other w.members v u cut other
          ∙ found) up room (set_get_same w.members v cut q found') refl room' i x y on d yin own short in (
            record { step = Kill v; said = quiet } ∷ record {
              step = Restart v;
              said = quiet;
            } ∷ record { step = Notice u; said = quiet } ∷ [],
            record { kills = omega arith; restarts = omega arith; notices = omega arith },
            (refl, refl, (refl, refl, (refl, refl, tt))),
            (
              g.0,
              ap (λ o. (course_from M o (record { step = Restart v; said = quiet } ∷ record {
                step = Notice u;
                said = quiet;
              } ∷ [])).world) (kill_does w v q found' qup) ∙ g.1,
              g.2,
            ),
          )

-- ---- what is held after a release

drop_stops : {X : Type 0} (p : X → Bool) (xs : List X) (o : X) (rest : List X)
    → drop (length (take_while p xs)) xs ≡ o ∷ rest → p o ≡ false
drop_stops p [] o rest e = cc
drop_stops p (x ∷ xs) o rest e = go (p x) refl (drop_stops p xs o rest) (rw (take_while-cons p x xs) at e)
  where
    go : (b : Bool) → p x ≡ b → (drop (length (take_while p xs)) xs ≡ o ∷ rest → p o ≡ false)
        → drop (length (cond b (x ∷ take_while p xs) [])) (x ∷ xs) ≡ o ∷ rest → p o ≡ false
    go true q h f = h f
    go false q h f = let is : x ≡ o = cc in ap p (sym is) ∙ q

drop_get : {X : Type 0} (k : ℕ) (xs : List X) (o : X) (rest : List X) → drop k xs ≡ o ∷ rest → slice_get xs k ≡ Some o
drop_get zero [] o rest e = cc
drop_get zero (x ∷ xs) o rest e = cc
drop_get (suc k) [] o rest e = cc
drop_get (suc k) (x ∷ xs) o rest e = drop_get k xs o rest e

pairs_at : {Y : Type 0} (f : ℕ → List Y) (path : List ℕ) (k : ℕ) (o : ℕ × Y)
    → slice_get (pairs_of f path) k ≡ Some o → has path o.0 ≡ true
pairs_at f [] k o e = cc
pairs_at f (x ∷ xs) k o e = elim (get_append_any (map (λ t. (x, t)) (f x)) (pairs_of f xs) k o e) [
  | inl h ↦ let t = map_at (λ z. (x, z)) (f x) k o h in
      or_left (x == o.0) (has xs o.0) (let q : o.0 ≡ x = ap (λ (z : ℕ × _). z.0) t.2 in rw q (eq_same x))
  | inr h ↦ or_right (x == o.0) (has xs o.0) (pairs_at f xs (k - length (map (λ t. (x, t)) (f x))) o h)
]

-- the first held after all that is firm was released is not firm
first_held : {Y : Type 0} (p : ℕ → Bool) (f : ℕ → List Y) (path : List ℕ)
    (released : List Y) (o : ℕ × Y) (rest : List (ℕ × Y)) → Closed p path → released ≡ flat_map f (take_while p path)
    → drop (length released) (pairs_of f path) ≡ o ∷ rest → (p o.0 ≡ false) × (has path o.0 ≡ true)
first_held {Y} p f path released o rest closed is e =
    let front = take_while (λ (z : ℕ × Y). p z.0) (pairs_of f path) in
    let size : length released ≡ length front =
    ap length is ∙ ap length (sym (pairs_seconds f (take_while p path))) ∙ length-map (pairs_of f (take_while p path))
    (λ (z : ℕ × Y). z.1) ∙ ap length (sym (pairs_front p f path closed)) in
    let d : drop (length front) (pairs_of f path) ≡ o ∷ rest = rw (← size) e in (
      drop_stops (λ (z : ℕ × Y). p z.0) (pairs_of f path) o rest d,
      pairs_at f path (length front) o (drop_get (length front) (pairs_of f path) o rest d),
    )

any_set : {X : Type 0} (p : X → Bool) (xs : List X) (u : ℕ) (m n : X)
    → slice_get xs u ≡ Some m → p n ≡ p m → list_any p (slice_set xs u n) ≡ list_any p xs
any_set p [] u m n e h = refl
any_set p (x ∷ xs) zero m n e h = let q : x ≡ m = same_Some x m e in ap (λ b. b || list_any p xs) (h ∙ ap p (sym q))
any_set p (x ∷ xs) (suc u) m n e h = ap (λ b. p x || b) (any_set p xs u m n e h)

all_same : (p q : ℕ → Bool) (xs : List ℕ) → ((x : ℕ) → p x ≡ q x) → list_all p xs ≡ list_all q xs
all_same p q [] h = refl
all_same p q (x ∷ xs) h = rw (h x, all_same p q xs h) refl

-- where not all pass, one fails
pub not_all : (p : ℕ → Bool) (xs : List ℕ) → list_all p xs ≡ false → (x : ℕ) × (has xs x ≡ true) × (p x ≡ false)
not_all p [] e = cc
not_all p (x ∷ xs) e = elim (bool_cases (p x)) [
  | inr q ↦ (x, or_left (x == x) (has xs x) (eq_same x), q)
  | inl q ↦ let t = not_all p xs (rw q at e) in (t.0, or_right (x == t.0) (has xs t.0) t.1, t.2)
]

module _ {S : Type 0} (M : Meaning S) where
  abbrev after_release : World → ℕ → Member → World
  after_release v u m = with_member v u (with_released m (map (λ o. o.1) (releasable M v m)))

  release_does : (v : World) (u : ℕ) (m : Member)
      → slice_get v.members u ≡ Some m → m.up ≡ true → (release M v u).world ≡ Some (after_release v u m)
  release_does v u m found up = ap (λ o. o.world) (at_up_found v u _ m found up)

  step_is : (v w : World) (e : Event) (u : ℕ) (m : Member) → slice_get v.members u ≡ Some m
      → m.up ≡ true → e.step ≡ Release u → (step M (Some v) e).world ≡ Some w → after_release v u m ≡ w
  step_is v w e u m found up is h =
      same_Some _ w (sym (release_does v u m found up) ∙ ap (λ z. (step_open M v z e.said).world) (sym is) ∙ h)

  -- an accepted release leaves just the firm front's outputs released
  pub release_is_whole : ReleaseIsWhole M
  release_is_whole v w e u m r found up is h =
      let g = reachable_invariant M r in
      let n : Member = with_released m (map (λ o. o.1) (releasable M v m)) in (
        n,
        ap (λ z. slice_get z.members u) (sym (step_is v w e u m found up is h)) ∙ set_get_same v.members u n m found,
        release_all M v g.chain.sound u m found (g.released u m found),
      )

  held_goes : (v : World) (u : ℕ) (m : Member)
      → Invariant M v → DownCut v → slice_get v.members u ≡ Some m → m.up ≡ true
      → ((y : ℕ) → y < length (after_release v u m).members → nat_le MAX_INCARNATION (incarnation_of v.table y) ≡ false)
      → (n : Member) → slice_get (after_release v u m).members u ≡ Some n
      → (x : ℕ) (text : List ℕ) (rest : List (ℕ × List ℕ))
      → held M (after_release v u m) n ≡ (x, text) ∷ rest → CanGo M (after_release v u m) u x
  held_goes v u m g down found up rooms n found' x text rest e =
      let w = after_release v u m in
      let q : Member = with_released m (map (λ o. o.1) (releasable M v m)) in
      let is : q ≡ n = same_Some q n (sym (set_get_same v.members u q m found) ∙ found') in
      let c : Chain w = chain_change M g.chain (releases u m found) in
      let same_firm : (y : ℕ) → is_firm w y ≡ is_firm v y = λ y. all_same (is_stable w.members) (is_stable v.members)
      (past v.nodes y) (λ z. any_set (λ k. has (take k.stable k.path) z) v.members u m q found refl) in
      let all : q.released ≡ firm_outputs M v m = release_all M v g.chain.sound u m found (g.released u m found) in
      let e' : drop (length q.released) (path_outputs M v m) ≡ (x, text) ∷ rest = ap (held M w) is ∙ e in
      let f = first_held (is_firm v) (λ y. (from_end (executed M v).turns y (begun M m.seat)).outputs)
      m.path q.released (x, text) rest (firm_closed v g.chain.sound u m found) all e' in
      let at = has_at m.path x f.1 in
      let lax = not_all (is_stable w.members) (past v.nodes x) (same_firm x ∙ f.0) in
      not_firm_goes M w c (down_set v.members u q down (λ z. down u m found z))
      rooms u q (set_get_same v.members u q m found) up at.0 x lax.0 at.1 (past_depends v.nodes x lax.0 lax.1) lax.2

  -- the node of the first output held after a release can go
  pub held_can_go : HeldCanGo M
  held_can_go v w e u m r found up is h =
      subst (λ z. ((y : ℕ) → y < length z.members → incarnation_of z.table y ≢ MAX_INCARNATION)
      → (n : Member) → slice_get z.members u ≡ Some n
      → (x : ℕ) (text : List ℕ) (rest : List (ℕ × List ℕ)) → held M z n ≡ (x, text) ∷ rest → CanGo M z u x)
      (step_is v w e u m found up is h)
      (λ rooms. held_goes v u m (reachable_invariant M r) (reachable_down M r)
      found up (λ y b. room_left (incarnation_of v.table y) (reachable_limited M r y) (rooms y b)))

  -- a node of a path that is not firm can go, where its unit is up
  pub not_firm_can_go : NotFirmCanGo M
  not_firm_can_go w r rooms u m found up x h lax =
      let t = has_at m.path x h in
      let a = not_all (is_stable w.members) (past w.nodes x) lax in
      not_firm_goes M w (reachable_invariant M r).chain (reachable_down M r)
      (λ y b. room_left (incarnation_of w.table y)
      (reachable_limited M r y) (rooms y b)) u m found up t.0 x a.0 t.1 (past_depends w.nodes x a.0 a.1) a.2

-- Where the tenant's optimism is 0, no path ever has an orphan.
use Rattle.std.proofs.Common.{◌≡◌, ◌⊎◌, inl, inr, refl, sym, ◌∙◌, ap, ℕ, zero, suc, ◌+◌, ◌-◌, ◌<◌, ◌≤◌, Bool, true}
use Rattle.std.proofs.Common.{false, cond, not, List, [], ◌∷◌, ◌++◌, length, take, arith, map}
use Rattle.std.specs.Prelude.{Option, Some, None, slice_get, slice_set, ◌==◌, nat_lt}
use Rattle.std.specs.List.{list_any, filter, prefix_len}
use Rattle.std.proofs.lemmas.Bool.Decides.{nat_tests}
use Rattle.std.proofs.lemmas.Option.{slice_get_within, same_Some}
use native.Mathlib.Decide.{dec_lt}
use Rattle.model.specs.declared.replies.Said.{Said}
use Rattle.model.specs.Handler.{Meaning}
use Rattle.model.specs.Lists.{has}
use Rattle.model.specs.Nodes.{Node, Cause, node_at, past, parents, place_before, sender_of, DependsOn}
use Rattle.model.specs.Nodes.DependsOn.{itself}
use Rattle.model.specs.World.{World, Member, is_orphan, is_stable, is_firm, unstable_units, releasable}
use Rattle.model.specs.Steps.{at_unit, at_up, with_member, with_receipt, with_unit, gone_back, path_kept, next_node}
use Rattle.model.specs.Steps.{fresh, beginning, notice, notice_rows, with_place, flushed, killed, back_at, with_known}
use Rattle.model.specs.Steps.{with_released}
use Rattle.model.specs.Alone.{step_open, Reachable}
use Rattle.model.specs.Alone.Reachable.{opened, stepped}
use Rattle.model.proofs.Places.{get_below}
use Rattle.theory.specs.Laws.{NoOrphans, NoNoticeAppends}
use Rattle.theory.proofs.ListLaws.{bool_cases, has_at, has_append, true_eq, or_left, or_right, get_set, get_append}
use Rattle.theory.proofs.ListLaws.{append_get, append_get_last, get_take, take_get, single}
use Rattle.theory.proofs.Pasts.{Placed, only, first_step, depends_le, depends_less, past_depends, node_newest}
use Rattle.theory.proofs.Changes.{Change, MayTake, step_changes, unless_cases, if_unit_cases, new_seat}
use Rattle.theory.proofs.Changes.Change.{unchanged, receives, flushes, dies, goes_back, learns, releases, joins}
use Rattle.theory.proofs.Changes.MayTake.{from_outside, from_letter}
use Rattle.theory.proofs.Invariants.{Sound, sound_change, not_orphan}
use Rattle.theory.proofs.Firm.{firm_stands, firm_change}
use Rattle.theory.proofs.Fronts.{firm_past, path_rises, front_length}
use Rattle.theory.proofs.Chain.{Chain}
use Rattle.theory.proofs.Sending.{letters_made}
use Rattle.theory.proofs.Counts.{first_counted}
use Rattle.theory.proofs.CertificateRun.{began_alone}
use Rattle.theory.proofs.Certificate.{reachable_invariant, first_invariant}
use Rattle.theory.proofs.HeldCanGo.{not_all}

-- ---- a sender without unstable nodes is firm

filter_some : {X : Type 0} (p : X → Bool) (xs : List X) (i : ℕ) (x : X)
    → slice_get xs i ≡ Some x → p x ≡ true → 1 ≤ length (filter p xs)
filter_some p [] i x e h = cc
filter_some p (y ∷ ys) zero x e h = let q : y ≡ x = same_Some y x e in rw (q, h) (omega arith)
filter_some p (y ∷ ys) (suc i) x e h = go (p y) (filter_some p ys i x e h)
  where
    go : (b : Bool) → 1 ≤ length (filter p ys) → 1 ≤ length (cond b (y ∷ filter p ys) (filter p ys))
    go true t = omega arith
    go false t = t

-- one that passes both is among those that pass the first
pub any_filter : {X : Type 0} (p q : X → Bool) (xs : List X) (i : ℕ) (x : X)
    → slice_get xs i ≡ Some x → p x ≡ true → q x ≡ true → list_any q (filter p xs) ≡ true
any_filter p q [] i x e h k = cc
any_filter p q (y ∷ ys) zero x e h k = let s : y ≡ x = same_Some y x e in
    rw (s, h) (or_left (q x) (list_any q (filter p ys)) k)
any_filter p q (y ∷ ys) (suc i) x e h k = go (p y) (any_filter p q ys i x e h k)
  where
    go : (b : Bool) → list_any q (filter p ys) ≡ true → list_any q (cond b (y ∷ filter p ys) (filter p ys)) ≡ true
    go true t = or_right (q y) (list_any q (filter p ys)) t
    go false t = t

none_unstable : (w : World) → Chain w
    → (x : ℕ) → x < length w.nodes → length (unstable_units w x) ≡ 0 → is_firm w x ≡ true
none_unstable w c x h none = elim (bool_cases (is_firm w x)) [
  | inl e ↦ e
  | inr e ↦
      let a = not_all (is_stable w.members) (past w.nodes x) e in
      let y = a.0 in
      let le = depends_le c.sound.placed (past_depends w.nodes x y a.1) in
      let at = has_at (past w.nodes x) y a.1 in
      let v = (node_at w.nodes y).unit in
      let q = get_below w.members v (c.owned y (omega arith)) in
      let some = any_filter (λ z. not (is_stable w.members z))
      (λ z. (node_at w.nodes z).unit == q.0.seat.unit) (past w.nodes x) at.0 y at.1 (ap not a.2)
      (true_eq v q.0.seat.unit (sym (c.sound.units v q.0 q.1).seated)) in
      let t = filter_some (λ m. list_any (λ z. (node_at w.nodes z).unit == m.seat.unit)
      (filter (λ z. not (is_stable w.members z)) (past w.nodes x))) w.members v q.0 q.1 some in
      absurd (omega (arith, t, none))
]

-- ---- what a node of a path depends on stands on that path or is firm

abbrev PureUnit : World → Member → Type 0
PureUnit w m = (i x y : ℕ) → slice_get m.path i ≡ Some x
    → DependsOn w.nodes x y → ((j : ℕ) × (slice_get m.path j ≡ Some y)) ⊎ (is_firm w y ≡ true)

abbrev Pure : World → Type 0
Pure w = (u : ℕ) (m : Member) → slice_get w.members u ≡ Some m → PureUnit w m

module _ {S : Type 0} (M : Meaning S) where
  -- a front of a path, with the nodes as they were
  pure_front : {v : World} (w : World) → Sound v
      → (c : Change M v w) → w.nodes ≡ v.nodes → (u n : ℕ) (m : Member) → slice_get v.members u ≡ Some m → PureUnit v m
      → (i x y : ℕ) → slice_get (take n m.path) i ≡ Some x
      → DependsOn v.nodes x y → ((j : ℕ) × (slice_get (take n m.path) j ≡ Some y)) ⊎ (is_firm w y ≡ true)
  pure_front {v} w s c same u n m found p i x y e d =
      let t = get_take m.path n i x e in
      let o = s.units u m found in
      let le = depends_le s.placed d in
      let xin = o.made i x t.0 in
      elim (p i x y t.0 d) [
        | inr f ↦ inr (firm_change M s c y (omega arith) f)
        | inl k ↦ inl (
          k.0,
          take_get m.path n k.0 y (elim (dec_lt i k.0) [
            | no q ↦ omega (arith, t.1)
            | yes q ↦ absurd (let r = path_rises s.placed o i k.0 x y t.0 k.1 q in omega arith)
          ]) k.1,
        )
      ]

  -- the same path
  pure_same : {v : World} (w : World)
      → Sound v → (c : Change M v w) → (u : ℕ) (m : Member) → slice_get v.members u ≡ Some m → PureUnit v m
      → (i x y : ℕ) → slice_get m.path i ≡ Some x
      → DependsOn v.nodes x y → ((j : ℕ) × (slice_get m.path j ≡ Some y)) ⊎ (is_firm w y ≡ true)
  pure_same w s c u m found p i x y e d =
      let le = depends_le s.placed d in
      let xin = (s.units u m found).made i x e in
      elim (p i x y e d) [ inr f ↦ inr (firm_change M s c y (omega arith) f) | inl k ↦ inl k ]

  sender_is_firm : (v : World) → Chain v → v.optimism ≡ 0 → (u : ℕ) (m : Member) (cause : Cause)
      → MayTake M v u m cause → (p : ℕ) → has (sender_of cause) p ≡ true → (p < length v.nodes) × (is_firm v p ≡ true)
  sender_is_firm v c zero_optimism u m _ (from_outside text) p h = absurd (cc h)
  sender_is_firm v c zero_optimism u m _ (from_letter l msg made to b o few number) p h =
      let is : msg.sender ≡ p = only p msg.sender h in
      let within : msg.sender < length v.nodes = letters_made M v.nodes l msg made in
      let none : length (unstable_units v msg.sender) ≡ 0 = grind (arith, nat_tests) in
      (omega arith, ap (is_firm v) (sym is) ∙ none_unstable v c msg.sender within none)

  pure_receipt : (v : World) → Chain v → v.optimism ≡ 0 → Pure v → (u : ℕ) (m : Member)
      (cause : Cause) (found : slice_get v.members u ≡ Some m) (up : m.up ≡ true) (may : MayTake M v u m cause)
      → (i x y : ℕ) → slice_get (m.path ++ length v.nodes ∷ []) i ≡ Some x
      → DependsOn (next_node v u m cause ∷ v.nodes) x y
      → ((j : ℕ) × (slice_get (m.path ++ length v.nodes ∷ []) j ≡ Some y))
      ⊎ (is_firm (with_receipt v u m cause) y ≡ true)
  pure_receipt v c zero_optimism p u m cause found up may i x y e d = elim (get_append m.path (length v.nodes) x i e) [
    | inl k ↦ old i x k (depends_less n placed ((c.sound.units u m found).made i x k) d)
    | inr k ↦ elim (first_step d) [
      | inl q ↦ inl (length m.path, append_get_last m.path (length v.nodes) ∙ ap Some (sym k.1 ∙ q))
      | inr q ↦ from_new q.0 (rw (node_newest n v.nodes x k.1) at q.1) q.2
    ]
  ]
    where
      n : Node
      n = next_node v u m cause

      w : World
      w = with_receipt v u m cause

      change : Change M v w
      change = receives u m cause found up may

      placed : Placed (n ∷ v.nodes)
      placed = (sound_change M c.sound change).placed

      old : (j z : ℕ) → slice_get m.path j ≡ Some z → DependsOn v.nodes z y
          → ((j : ℕ) × (slice_get (m.path ++ length v.nodes ∷ []) j ≡ Some y)) ⊎ (is_firm w y ≡ true)
      old j z f g = elim (pure_same w c.sound change u m found (p u m found) j z y f g) [
        | inr q ↦ inr q
        | inl q ↦ inl (q.0, append_get m.path _ q.0 y q.1)
      ]

      from_new : (z : ℕ) → has (parents n) z ≡ true → DependsOn (n ∷ v.nodes) z y
          → ((j : ℕ) × (slice_get (m.path ++ length v.nodes ∷ []) j ≡ Some y)) ⊎ (is_firm w y ≡ true)
      from_new z h g = elim (has_append (place_before n.before) (sender_of cause) z h) [
        | inl q ↦ last (slice_get m.path (length m.path - 1)) refl q
        | inr q ↦
            let f = sender_is_firm v c zero_optimism u m cause may z q in
            let g' = depends_less n placed f.0 g in
            let le = depends_le c.sound.placed g' in
            inr (firm_change M c.sound change y (omega (arith, f.0)) (firm_past v z y c.sound.placed f.0 f.1 g'))
      ]
        where
          last : (b : Option ℕ) → slice_get m.path (length m.path - 1) ≡ b → has (place_before b) z ≡ true
              → ((j : ℕ) × (slice_get (m.path ++ length v.nodes ∷ []) j ≡ Some y)) ⊎ (is_firm w y ≡ true)
          last None f q = absurd (cc q)
          last (Some z') f q = let is : z' ≡ z = only z z' q in
              let f' : slice_get m.path (length m.path - 1) ≡ Some z = f ∙ ap Some is in
              old (length m.path - 1)
              z f' (depends_less n placed ((c.sound.units u m found).made (length m.path - 1) z f') g)

  pure_set : (w : World) (members : List Member) (u : ℕ) (q : Member)
      → ((x : ℕ) (n : Member) → slice_get members x ≡ Some n → PureUnit w n)
      → PureUnit w q → (x : ℕ) (n : Member) → slice_get (slice_set members u q) x ≡ Some n → PureUnit w n
  pure_set w members u q others own x n e =
      elim (get_set members u x q n e) [ inl k ↦ rw k.1 own | inr k ↦ others x n k.1 ]

  pure_change : {v w : World} → Chain v → v.optimism ≡ 0 → Pure v → Change M v w → Pure w
  pure_change c z p unchanged = p
  pure_change {v} c z p (receives u m cause found up may) =
      let w = with_receipt v u m cause in
      let n = next_node v u m cause in
      let change : Change M v w = receives u m cause found up may in
      let placed : Placed (n ∷ v.nodes) = (sound_change M c.sound change).placed in
      pure_set w v.members u (with_place m (length v.nodes))
      (λ x q f i a y e d. pure_same
      w c.sound change x q f (p x q f) i a y e (depends_less n placed ((c.sound.units x q f).made i a e) d))
      (pure_receipt v c z p u m cause found up may)
  pure_change {v} c z p (flushes u k m found g) =
      let w = with_member v u (flushed m k) in
      pure_set w v.members u (flushed m k) (λ x q f. pure_same w c.sound (flushes u k m found g) x q f (p x q f))
      (pure_same w c.sound (flushes u k m found g) u m found (p u m found))
  pure_change {v} c z p (dies u m found) =
      let w = with_member v u (killed m) in
      pure_set w v.members u (killed m) (λ x q f. pure_same w c.sound (dies u m found) x q f (p x q f))
      (pure_front w c.sound (dies u m found) refl u m.stable m found (p u m found))
  pure_change {v} c z p (goes_back u m found room) =
      let w = gone_back v u m (path_kept v m) in
      pure_set w v.members u (back_at m (path_kept v m) (length v.table + 1))
      (λ x q f. pure_same w c.sound (goes_back u m found room) x q f (p x q f))
      (pure_front w c.sound (goes_back u m found room)
      refl u (prefix_len (λ x. not (is_orphan v.nodes v.table x)) m.path) m found (p u m found))
  pure_change {v} c z p (learns u m found g) =
      let w = with_member v u (with_known m (length v.table)) in
      pure_set w v.members u (with_known m (length v.table)) (λ x q f. pure_same w c.sound
      (learns u m found g) x q f (p x q f)) (pure_same w c.sound (learns u m found g) u m found (p u m found))
  pure_change {v} c z p (releases u m found) =
      let w = with_member v u (with_released m (map (λ o. o.1) (releasable M v m))) in
      pure_set w v.members u (with_released m (map (λ o. o.1) (releasable M v m))) (λ x q f. pure_same w c.sound
      (releases u m found) x q f (p x q f)) (pure_same w c.sound (releases u m found) u m found (p u m found))
  pure_change {v} c z p (joins kind room) = λ u m f. elim (get_append v.members new m u f) [
    | inl k ↦ λ i x y e d. pure_same
        w c.sound change u m k (p u m k) i x y e (depends_less n placed ((c.sound.units u m k).made i x e) d)
    | inr k ↦ rw k.1 (λ i x y e d. inl (i, e ∙ ap Some (alone i x y e d)))
  ]
    where
      n : Node
      n = beginning (new_seat (length v.members + 1) v kind) (length v.members + 1)

      new : Member
      new = fresh (new_seat (length v.members + 1) v kind) (length v.nodes) (length v.table)

      w : World
      w = with_unit (length v.members + 1) v kind

      change : Change M v w
      change = joins kind room

      placed : Placed (n ∷ v.nodes)
      placed = (sound_change M c.sound change).placed

      alone : (i x y : ℕ) → slice_get (length v.nodes ∷ []) i ≡ Some x → DependsOn (n ∷ v.nodes) x y → x ≡ y
      alone i x y e d = elim (first_step d) [
        | inl q ↦ q
        | inr q ↦ absurd (let t = rw (node_newest n v.nodes x (single (length v.nodes) i x e).1) at q.1 in cc t)
      ]

  optimism_kept : {v w : World} → Change M v w → w.optimism ≡ v.optimism
  optimism_kept unchanged = refl
  optimism_kept (receives u m cause found up may) = refl
  optimism_kept (flushes u k m found g) = refl
  optimism_kept (dies u m found) = refl
  optimism_kept (goes_back u m found room) = refl
  optimism_kept (learns u m found g) = refl
  optimism_kept (releases u m found) = refl
  optimism_kept (joins kind room) = refl

  reachable_pure : {w : World} → Reachable M w → w.optimism ≡ 0 → Pure w
  reachable_pure {w} (opened e h) z = λ u m f i x y on d.
      let g = first_invariant M e.step w h in
      let k = first_counted M e.step w h in
      let xin = (g.chain.sound.units u m f).made i x on in
      elim (first_step d) [
        | inl q ↦ inl (i, on ∙ ap Some q)
        | inr q ↦ absurd (let t =
            rw (began_alone M w g.chain g.opening g.counted g.numbered x xin (k.all_began x xin)) at q.1 in cc t)
      ]
  reachable_pure {w} (stepped {v = v} e r h) z =
      let c = step_changes M v w e.step e.said h in
      let z' : v.optimism ≡ 0 = sym (optimism_kept c) ∙ z in
      pure_change (reachable_invariant M r).chain z' (reachable_pure r z') c

  -- ---- so nothing on a path is an orphan

  pure_safe : (w : World) → Chain w → Pure w → (u : ℕ) (m : Member)
      → slice_get w.members u ≡ Some m → (i x : ℕ) → slice_get m.path i ≡ Some x → is_orphan w.nodes w.table x ≡ false
  pure_safe w c p u m found i x on = not_orphan w.nodes w.table x (λ y d.
      let le = depends_le c.sound.placed d in
      let xin = (c.sound.units u m found).made i x on in
      elim (p u m found i x y on d) [
        | inl k ↦ (c.sound.units u m found).kept k.0 y k.1
        | inr f ↦ let st = firm_stands w y y c.sound.placed (omega arith) f itself in
            (c.sound.units st.unit st.member st.found).kept st.place y st.on_path
      ])

  -- no path has an orphan
  pub no_orphans : NoOrphans M
  no_orphans w r z u m found x h = let t = has_at m.path x h in
      pure_safe w (reachable_invariant M r).chain (reachable_pure r z) u m found t.0 x t.1

  kept_whole : (w : World) → Chain w
      → Pure w → (u : ℕ) (m : Member) → slice_get w.members u ≡ Some m → length (path_kept w m) ≡ length m.path
  kept_whole w c p u m found =
      front_length (λ x. not (is_orphan w.nodes w.table x)) m.path (length m.path) (omega arith)
      (λ j y l e. ap not (pure_safe w c p u m found j y e))
      (λ y e. absurd (let t = slice_get_within m.path (length m.path) y e in omega arith))

  notice_table : (w z : World) (u : ℕ) (said : Said)
      → Chain w → Pure w → (notice w u said).world ≡ Some z → z.table ≡ w.table
  unfolding at_unit at_up
  notice_table w z u said c p e = elim (if_unit_cases w z _ (slice_get w.members u) e) [
    | inl h ↦ ap (λ y. y.table) (sym h)
    | inr h ↦
        let whole = kept_whole w c p u h.0 h.1 in
        let no : nat_lt (length (path_kept w h.0)) (length h.0.path) ≡ false = grind (arith, nat_tests) in
        elim (unless_cases w z _ _ h.2) [
          | inl q ↦ ap (λ y. y.table) (sym q)
          | inr q ↦
              let k : (notice_rows w u h.0).world ≡ Some z = (let t = rw no at q.1 in t) in
              ap (λ y. y.table) (sym (same_Some _ z k))
        ]
  ]

  -- no notice appends a row
  pub no_notice_appends : NoNoticeAppends M
  no_notice_appends w z e u r o is h = notice_table w z u e.said
      (reachable_invariant M r).chain (reachable_pure r o) (ap (λ s. (step_open M w s e.said).world) (sym is) ∙ h)

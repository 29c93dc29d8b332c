-- Paths are chains of predecessors, none of whose nodes is lost: every change keeps that.
use Rattle.std.proofs.Common.{◌≡◌, ◌⊎◌, inl, inr, refl, sym, ◌∙◌, ap, ℕ, suc, ◌+◌, ◌-◌, ◌<◌, ◌≤◌, Bool, true, false}
use Rattle.std.proofs.Common.{cond, not, max, List, [], ◌∷◌, ◌++◌, length, arith, length-append, length-take}
use Rattle.std.specs.Prelude.{Option, Some, None, slice_get, slice_set, ◌==◌}
use Rattle.std.proofs.lemmas.Bool.Decides.{nat_tests}
use Rattle.std.proofs.lemmas.List.Folds.{list_any-append}
use Rattle.std.specs.List.{take_while}
use Rattle.std.proofs.lemmas.Bool.{or_from}
use native.Mathlib.Decide.{ℕ_discrete}
use Rattle.model.specs.declared.names.Row.{Row}
use Rattle.model.specs.declared.names.Seat.{Seat}
use Rattle.model.specs.Handler.{Meaning}
use Rattle.model.specs.Lists.{has}
use Rattle.model.specs.Nodes.{Node, Cause, node_at, parents, past, DependsOn, sender_of, place_before}
use Rattle.model.specs.World.{World, Member, is_lost, is_orphan, incarnation_of, is_lost_by}
use Rattle.model.specs.Steps.{with_unit, path_kept, next_node, row_for, beginning, with_place, back_at}
use Rattle.theory.proofs.ListLaws.{get_set, get_append, get_take, get_take_while, at_has, any_none, any_at, adjacent}
use Rattle.theory.proofs.ListLaws.{kept_front, has_append, bool_cases, single}
use Rattle.theory.proofs.Pasts.{only, Placed, node_newest, node_older, past_depends, first_step, node_earlier}
use Rattle.theory.proofs.Changes.{Change, MayTake, new_seat}
use Rattle.theory.proofs.Changes.Change.{unchanged, receives, flushes, dies, goes_back, learns, releases, joins}
use Rattle.theory.proofs.Changes.MayTake.{from_outside, from_letter}
use Rattle.theory.proofs.Sending.{letters_made}

-- What holds of the unit at u. Its path is a chain of predecessors of its own nodes, each at its index.
-- No node of it is lost by the table. Incarnations rise along it up to the unit's greatest.
pub record SoundMember (nodes : List Node) (table : List Row) (u : ℕ) (m : Member) : Type 0 where
  pub seated : m.seat.unit ≡ u
  pub begun : 1 ≤ m.stable
  pub logged : m.stable ≤ length m.path
  pub made : (i x : ℕ) → slice_get m.path i ≡ Some x → x < length nodes
  pub own : (i x : ℕ) → slice_get m.path i ≡ Some x → (node_at nodes x).unit ≡ u
  pub indexed : (i x : ℕ) → slice_get m.path i ≡ Some x → (node_at nodes x).index ≡ i
  pub chained : (i x y : ℕ) → slice_get m.path i ≡ Some x
      → slice_get m.path (suc i) ≡ Some y → (node_at nodes y).before ≡ Some x
  pub rising : (i x y : ℕ) → slice_get m.path i ≡ Some x
      → slice_get m.path (suc i) ≡ Some y → (node_at nodes x).incarnation ≤ (node_at nodes y).incarnation
  pub reached : (i x : ℕ) → slice_get m.path i ≡ Some x → (node_at nodes x).incarnation ≤ incarnation_of table u
  pub kept : (i x : ℕ) → slice_get m.path i ≡ Some x → is_lost table (node_at nodes x) ≡ false
  pub first : (x : ℕ) → slice_get m.path 0 ≡ Some x → parents (node_at nodes x) ≡ []

-- that of every unit
abbrev pub SoundMembers : List Node → List Row → List Member → Type 0
SoundMembers nodes table members = (u : ℕ) (m : Member) → slice_get members u ≡ Some m → SoundMember nodes table u m

-- what holds of the world: parents come first, paths are as above, and no row loses a beginning
pub record Sound (w : World) : Type 0 where
  pub placed : Placed w.nodes
  pub units : SoundMembers w.nodes w.table w.members
  pub starts : (i : ℕ) (r : Row) → slice_get w.table i ≡ Some r → 1 ≤ r.start

-- ---- rows

-- a row that begins no later incarnation, or begins it past the node, does not lose it
not_lost_by : (n : Node) (r : Row)
    → (r.unit ≡ n.unit → (r.incarnation ≤ n.incarnation) ⊎ (n.index < r.start)) → is_lost_by n r ≡ false
not_lost_by n r h = elim (ℕ_discrete r.unit n.unit) [
  | yes e ↦ elim (h e) [ inl k ↦ grind (arith, nat_tests) | inr k ↦ grind (arith, nat_tests) ]
  | no e ↦ grind (arith, nat_tests)
]

-- a node of the greatest incarnation or above is not lost
pub latest_kept : (rows : List Row) (n : Node) → incarnation_of rows n.unit ≤ n.incarnation → is_lost rows n ≡ false
latest_kept [] n h = refl
latest_kept (r ∷ rows) n h = elim (bool_cases (r.unit == n.unit)) [
  | inl q ↦ let le : max r.incarnation (incarnation_of rows n.unit) ≤ n.incarnation = rw q at h in
      or_from _ _ (not_lost_by n r (λ _. inl (omega arith))) (latest_kept rows n (omega arith))
  | inr q ↦ let le : incarnation_of rows n.unit ≤ n.incarnation = rw q at h in
      or_from _ _ (not_lost_by n r (λ e. absurd (grind (arith, nat_tests)))) (latest_kept rows n le)
]

-- one more row that does not lose the node leaves it kept
kept_more : (rows : List Row) (r : Row) (n : Node)
    → is_lost rows n ≡ false → is_lost_by n r ≡ false → is_lost (rows ++ r ∷ []) n ≡ false
kept_more rows r n h k = rw (list_any-append (is_lost_by n) rows (r ∷ [])) (or_from _ _ h (or_from _ _ k refl))

-- one more row does not lessen the greatest incarnation
pub incarnation_more : (rows : List Row) (r : Row) (u : ℕ) → incarnation_of rows u ≤ incarnation_of (rows ++ r ∷ []) u
incarnation_more [] r u = omega arith
incarnation_more (q ∷ rows) r u = cond_le (q.unit == u) (incarnation_more rows r u)
  where
    cond_le : (b : Bool) → incarnation_of rows u ≤ incarnation_of (rows ++ r ∷ []) u
        → cond b (max q.incarnation (incarnation_of rows u)) (incarnation_of rows u)
        ≤ cond b (max q.incarnation (incarnation_of (rows ++ r ∷ []) u)) (incarnation_of (rows ++ r ∷ []) u)
    cond_le true h = omega arith
    cond_le false h = h

-- ---- one unit changes, and the nodes and the table stay

-- another path that is a front of the one before, of which as much is stable
sound_front : {nodes : List Node} {table : List Row} {u : ℕ} {m : Member} (n : Member)
    → SoundMember nodes table u m → n.seat ≡ m.seat → 1 ≤ n.stable → n.stable ≤ length n.path
    → ((i x : ℕ) → slice_get n.path i ≡ Some x → slice_get m.path i ≡ Some x) → SoundMember nodes table u n
sound_front n s seat begun logged front = record {
  seated = ap (λ z. z.unit) seat ∙ s.seated;
  begun = begun;
  logged = logged;
  made = λ i x e. s.made i x (front i x e);
  own = λ i x e. s.own i x (front i x e);
  indexed = λ i x e. s.indexed i x (front i x e);
  chained = λ i x y e f. s.chained i x y (front i x e) (front (suc i) y f);
  rising = λ i x y e f. s.rising i x y (front i x e) (front (suc i) y f);
  reached = λ i x e. s.reached i x (front i x e);
  kept = λ i x e. s.kept i x (front i x e);
  first = λ x e. s.first x (front 0 x e);
}

-- the units after one of them has changed
sound_members : (nodes : List Node) (table : List Row) (members : List Member) (u : ℕ) (n : Member)
    → SoundMembers nodes table members → SoundMember nodes table u n → SoundMembers nodes table (slice_set members u n)
sound_members nodes table members u n s sn v m e = elim (get_set members u v n m e) [
  | inl q ↦ rw (q.0, q.1) sn
  | inr q ↦ s v m q.1
]

-- ---- one more node

-- one more node leaves the unit as it was
sound_node : {nodes : List Node} {table : List Row} {u : ℕ} {m : Member} (n : Node)
    → SoundMember nodes table u m → SoundMember (n ∷ nodes) table u m
sound_node {nodes} n s = record {
  seated = s.seated;
  begun = s.begun;
  logged = s.logged;
  made = λ i x e. omega (arith, s.made i x e);
  own = λ i x e. rw (node_earlier n nodes x (s.made i x e)) (s.own i x e);
  indexed = λ i x e. rw (node_earlier n nodes x (s.made i x e)) (s.indexed i x e);
  chained = λ i x y e f. rw (node_earlier n nodes y (s.made (suc i) y f)) (s.chained i x y e f);
  rising = λ i x y e f. rw (
    node_earlier n nodes x (s.made i x e),
    node_earlier n nodes y (s.made (suc i) y f),
  ) (s.rising i x y e f);
  reached = λ i x e. rw (node_earlier n nodes x (s.made i x e)) (s.reached i x e);
  kept = λ i x e. rw (node_earlier n nodes x (s.made i x e)) (s.kept i x e);
  first = λ x e. rw (node_earlier n nodes x (s.made 0 x e)) (s.first x e);
}

-- ---- one more row

-- a row that loses no node of the path
sound_row : {nodes : List Node} {table : List Row} {u : ℕ} {m : Member} (r : Row)
    → SoundMember nodes table u m → ((i x : ℕ) → slice_get m.path i ≡ Some x → is_lost_by (node_at nodes x) r ≡ false)
    → SoundMember nodes (table ++ r ∷ []) u m
sound_row {nodes} {table} {u} r s h = record {
  seated = s.seated;
  begun = s.begun;
  logged = s.logged;
  made = s.made;
  own = s.own;
  indexed = s.indexed;
  chained = s.chained;
  rising = s.rising;
  reached = λ i x e. omega (arith, s.reached i x e, incarnation_more table r u);
  kept = λ i x e. kept_more table r (node_at nodes x) (s.kept i x e) (h i x e);
  first = s.first;
}

-- ---- orphans

-- an orphan depends on a node that is lost
pub orphan_depends : (nodes : List Node) (rows : List Row) (x : ℕ)
    → is_orphan nodes rows x ≡ true → (y : ℕ) × DependsOn nodes x y × (is_lost rows (node_at nodes y) ≡ true)
orphan_depends nodes rows x e =
    let r = any_at (λ y. is_lost rows (node_at nodes y)) (past nodes x) e in
    (r.1.0, past_depends nodes x r.1.0 (at_has (past nodes x) r.0 r.1.0 r.1.1), r.1.2)

-- and a node that depends on none is no orphan
pub not_orphan : (nodes : List Node) (rows : List Row) (x : ℕ)
    → ((y : ℕ) → DependsOn nodes x y → is_lost rows (node_at nodes y) ≡ false) → is_orphan nodes rows x ≡ false
not_orphan nodes rows x h = elim (bool_cases (is_orphan nodes rows x)) [
  | inr e ↦ e
  | inl e ↦ let r = orphan_depends nodes rows x e in absurd (cc (h r.0 r.1, r.2))
]

-- ---- each change keeps all this

-- a member's path with one more node
sound_receipt : (w : World) (u : ℕ) (m : Member) (cause : Cause) → SoundMember w.nodes w.table u m
    → SoundMember (next_node w u m cause ∷ w.nodes) w.table u (with_place m (length w.nodes))
sound_receipt w u m cause s =
    let n = next_node w u m cause in
    let old = sound_node n s in
    let new : node_at (n ∷ w.nodes) (length w.nodes) ≡ n = node_newest n w.nodes (length w.nodes) refl in
    record {
      seated = s.seated;
      begun = s.begun;
      logged = rw (length-append m.path (length w.nodes ∷ [])) (omega (arith, s.logged));
      made = λ i x e. elim (get_append m.path (length w.nodes) x i e) [
        | inl h ↦ old.made i x h
        | inr h ↦ omega (arith, h.1)
      ];
      own = λ i x e. elim (get_append m.path (length w.nodes) x i e) [
        | inl h ↦ old.own i x h
        | inr h ↦ rw (h.1, new) refl
      ];
      indexed = λ i x e. elim (get_append m.path (length w.nodes) x i e) [
        | inl h ↦ old.indexed i x h
        | inr h ↦ rw (h.1, new) (sym h.0)
      ];
      chained = λ i x y e f. let a = adjacent m.path (length w.nodes) i x y e f in elim (a.1) [
        | inl h ↦ old.chained i x y a.0 h
        | inr h ↦ rw (h.1, new) (let k : length m.path - 1 ≡ i = omega (arith, h.0) in rw k a.0)
      ];
      rising = λ i x y e f. let a = adjacent m.path (length w.nodes) i x y e f in elim (a.1) [
        | inl h ↦ old.rising i x y a.0 h
        | inr h ↦ rw (h.1, new) (old.reached i x a.0)
      ];
      reached = λ i x e. elim (get_append m.path (length w.nodes) x i e) [
        | inl h ↦ old.reached i x h
        | inr h ↦ rw (h.1, new) (omega arith)
      ];
      kept = λ i x e. elim (get_append m.path (length w.nodes) x i e) [
        | inl h ↦ old.kept i x h
        | inr h ↦ rw (h.1, new) (latest_kept w.table n (omega arith))
      ];
      first = λ x e. elim (get_append m.path (length w.nodes) x 0 e) [
        | inl h ↦ old.first x h
        | inr h ↦ absurd (omega (arith, h.0, s.begun, s.logged))
      ];
    }

-- what may be taken has only nodes of the world as its parents
pub receipt_placed : {S : Type 0} (M : Meaning S) (w : World) (u : ℕ) (m : Member) (cause : Cause)
    → SoundMember w.nodes w.table u m → MayTake M w u m cause
    → (p : ℕ) → has (parents (next_node w u m cause)) p ≡ true → p < length w.nodes
receipt_placed M w u m cause s may p e =
    elim (has_append (place_before (slice_get m.path (length m.path - 1))) (sender_of cause) p e) [
      | inl h ↦ before_made (slice_get m.path (length m.path - 1)) refl h
      | inr h ↦ sender_made cause may h
    ]
  where
    before_made : (o : Option ℕ)
        → slice_get m.path (length m.path - 1) ≡ o → has (place_before o) p ≡ true → p < length w.nodes
    before_made None q h = absurd (cc h)
    before_made (Some x) q h = rw (← only p x h) (s.made (length m.path - 1) x q)

    sender_made : (c : Cause) → MayTake M w u m c → has (sender_of c) p ≡ true → p < length w.nodes
    sender_made c (from_outside text) h = absurd (cc h)
    sender_made c (from_letter l msg made to b o few k) h =
        rw (← only p msg.sender h) (letters_made M w.nodes l msg made)

placed_more : (n : Node) (nodes : List Node)
    → Placed nodes → ((p : ℕ) → has (parents n) p ≡ true → p < length nodes) → Placed (n ∷ nodes)
placed_more n nodes placed h x p e = elim (ℕ_discrete x (length nodes)) [
  | yes q ↦ rw q (h p (rw (node_newest n nodes x q) at e))
  | no q ↦ placed x p (rw (node_older n nodes x q) at e)
]

-- the first node of a path is no orphan, so the path is not cut to nothing
pub kept_some : (w : World) (u : ℕ) (m : Member) → SoundMember w.nodes w.table u m → 1 ≤ length (path_kept w m)
kept_some w u m s = go m.path refl
  where
    go : (path : List ℕ) → m.path ≡ path → 1 ≤ length (take_while (λ x. not (is_orphan w.nodes w.table x)) path)
    go [] q = absurd (let h : length m.path ≡ 0 = ap length q in omega (arith, s.begun, s.logged, h))
    go (x ∷ path) q =
        let at : slice_get m.path 0 ≡ Some x = rw q refl in
        let safe : is_orphan w.nodes w.table x ≡ false = not_orphan w.nodes w.table x (λ y d. elim (first_step d) [
          | inl e ↦ rw (← e) (s.kept 0 x at)
          | inr r ↦ absurd (let h = rw (s.first x at) at r.1 in cc h)
        ]) in
        kept_front (λ x. not (is_orphan w.nodes w.table x)) x path (rw safe refl)

-- the beginning of a unit is lost by no row
begin_kept : (table : List Row) (seat : Seat) (home : ℕ)
    → ((i : ℕ) (r : Row) → slice_get table i ≡ Some r → 1 ≤ r.start) → is_lost table (beginning seat home) ≡ false
begin_kept table seat home starts =
    any_none _ table (λ i r e. not_lost_by (beginning seat home) r (λ _. inr (starts i r e)))

-- one more unit at its beginning
pub sound_with_unit : (home kind : ℕ) (w : World) → Sound w → Sound (with_unit home w kind)
sound_with_unit home kind w s =
    let seat : Seat = new_seat home w kind in
    let n = beginning seat home in
    let new : node_at (n ∷ w.nodes) (length w.nodes) ≡ n = node_newest n w.nodes (length w.nodes) refl in
    record {
      placed = placed_more n w.nodes s.placed (λ p e. absurd (cc e));
      units = λ u m e. elim (get_append w.members _ m u e) [
        | inl h ↦ sound_node n (s.units u m h)
        | inr h ↦ rw (h.0, h.1) (record {
          seated = refl;
          begun = omega arith;
          logged = omega arith;
          made = λ i x q. let k = single (length w.nodes) i x q in omega (arith, k.1);
          own = λ i x q. let k = single (length w.nodes) i x q in rw (k.1, new) refl;
          indexed = λ i x q. let k = single (length w.nodes) i x q in rw (k.1, new) (sym k.0);
          chained = λ i x y q t. cc;
          rising = λ i x y q t. cc;
          reached = λ i x q. let k = single (length w.nodes) i x q in rw (k.1, new) (omega arith);
          kept = λ i x q. let k = single (length w.nodes) i x q in
              rw (k.1, new) (begin_kept w.table seat home s.starts);
          first = λ x q. let k = single (length w.nodes) 0 x q in rw (k.1, new) refl;
        })
      ];
      starts = s.starts;
    }

module _ {S : Type 0} (M : Meaning S) where
  -- a change keeps all of it
  pub sound_change : {v w : World} → Sound v → Change M v w → Sound w
  sound_change s unchanged = s
  sound_change {v} s (receives u m cause found up may) = record {
    placed =
        placed_more (next_node v u m cause) v.nodes s.placed (receipt_placed M v u m cause (s.units u m found) may);
    units = sound_members (next_node v u m cause ∷ v.nodes)
        v.table v.members u _ (λ x n e. sound_node _ (s.units x n e)) (sound_receipt v u m cause (s.units u m found));
    starts = s.starts;
  }
  sound_change {v} s (flushes u k m found h) = record {
    placed = s.placed;
    units = let o = s.units u m found in sound_members v.nodes v.table v.members u _ s.units
        (sound_front _ o refl (omega (arith, o.begun)) (omega (arith, o.logged)) (λ i x e. e));
    starts = s.starts;
  }
  sound_change {v} s (dies u m found) = record {
    placed = s.placed;
    units = let o = s.units u m found in sound_members v.nodes v.table v.members u _ s.units
        (sound_front _ o refl o.begun (rw (length-take m.stable m.path) (omega (arith, o.logged)))
        (λ i x e. (get_take m.path m.stable i x e).0));
    starts = s.starts;
  }
  sound_change {v} s (goes_back u m found room) =
      let o = s.units u m found in
      let path = path_kept v m in
      let r = row_for v u path in
      record {
        placed = s.placed;
        units = λ x n e. elim (get_set v.members u x _ n e) [
          | inl q ↦ rw (q.0, q.1) (sound_row r
              (sound_front (back_at m path (length v.table + 1))
              o refl (omega (arith, o.begun, kept_some v u m o))
              (omega arith) (λ i y h. (get_take_while _ m.path i y h).0))
              (λ i y h. let t = get_take_while _ m.path i y h in
              not_lost_by (node_at v.nodes y) r (λ _. inr (rw (o.indexed i y t.0) t.1))))
          | inr q ↦ sound_row r (s.units x n q.1) (λ i y h.
              not_lost_by (node_at v.nodes y) r (λ k. absurd (q.0 (sym ((s.units x n q.1).own i y h) ∙ sym k))))
        ];
        starts = λ i row e. elim (get_append v.table r row i e) [
          | inl h ↦ s.starts i row h
          | inr h ↦ rw h.1 (kept_some v u m o)
        ];
      }
  sound_change {v} s (learns u m found h) = record {
    placed = s.placed;
    units = let o = s.units u m found in sound_members v.nodes v.table v.members u _ s.units
        (sound_front _ o refl o.begun o.logged (λ i x e. e));
    starts = s.starts;
  }
  sound_change {v} s (releases u m found) = record {
    placed = s.placed;
    units = let o = s.units u m found in sound_members v.nodes v.table v.members u _ s.units
        (sound_front _ o refl o.begun o.logged (λ i x e. e));
    starts = s.starts;
  }
  sound_change {v} s (joins kind room) = sound_with_unit (length v.members + 1) kind v s

-- Each change keeps what holds of all nodes and rows together.
use Rattle.std.proofs.Common.{◌≡◌, ◌≢◌, ◌⊎◌, inl, inr, refl, sym, ◌∙◌, ap, subst, ℕ, zero, suc, ◌+◌, ◌-◌, ◌<◌, ◌≤◌}
use Rattle.std.proofs.Common.{Bool, true, false, cond, List, [], ◌∷◌, ◌++◌, length, take, arith, map, length-append}
use Rattle.std.proofs.Common.{length-take, length-set}
use Rattle.std.specs.Prelude.{nat_le, Option, Some, None, slice_get, slice_set}
use Rattle.std.proofs.lemmas.Option.{slice_get_within, same_Some}
use Rattle.std.proofs.lemmas.List.{take-append-le}
use Rattle.std.specs.List.{fold}
use Rattle.std.proofs.Math.Seq.{take-length}
use native.Mathlib.Decide.{dec_lt, ℕ_discrete}
use Rattle.model.specs.declared.limits.TheConstants.{MAX_INCARNATION}
use Rattle.model.specs.declared.names.Row.{Row}
use Rattle.model.specs.Handler.{Meaning}
use Rattle.model.specs.Lists.{has}
use Rattle.model.specs.Nodes.{Node, Cause, node_at, parents, DependsOn, sender_of, place_before}
use Rattle.model.specs.World.{incarnation_of, World, Member, releasable}
use Rattle.model.specs.Steps.{with_member, with_receipt, with_unit, gone_back, path_kept, next_node, row_for, beginning}
use Rattle.model.specs.Steps.{with_place, flushed, killed, back_at, with_known, with_released, open_new, can_open}
use Rattle.model.specs.Steps.{opened_with, kind_or_0}
use Rattle.model.specs.Nodes.DependsOn.{itself, through}
use Rattle.model.specs.declared.names.Quota.{Quota}
use Rattle.model.specs.declared.refusals.Refusal.TheVariants.{BadOpen}
use Rattle.model.specs.declared.replies.Reply.TheVariants.{Refused}
use Rattle.model.specs.declared.steps.TenantStep.{TenantStep}
use Rattle.model.specs.declared.steps.TenantStep.TheVariants.{Open, Join, Post, Deliver, Flush, Checkpoint, Kill}
use Rattle.model.specs.declared.steps.TenantStep.TheVariants.{Restart, Notice, Release, Status}
use Rattle.model.specs.Alone.{step_unopened}
use Rattle.model.proofs.Places.{get_below}
use Rattle.theory.proofs.ListLaws.{get_set, get_append, get_take, get_take_while, take_while_le, set_get_same}
use Rattle.theory.proofs.ListLaws.{append_get, append_get_last, take_get, has_append, has_before, not_true, single}
use Rattle.theory.proofs.ListLaws.{take_while_passes}
use Rattle.theory.proofs.Pasts.{only, Placed, node_newest, node_older, node_past_end, depends_less, depends_le}
use Rattle.theory.proofs.Pasts.{first_step, node_earlier}
use Rattle.theory.proofs.Changes.{Change, MayTake, new_seat}
use Rattle.theory.proofs.Changes.Change.{unchanged, receives, flushes, dies, goes_back, learns, releases, joins}
use Rattle.theory.proofs.Changes.MayTake.{from_outside, from_letter}
use Rattle.theory.proofs.Sending.{letters_made}
use Rattle.theory.proofs.Invariants.{Sound, SoundMember, sound_change, sound_with_unit, latest_kept, incarnation_more}
use Rattle.theory.proofs.Invariants.{receipt_placed}
use Rattle.theory.proofs.RowLaws.{Loses, Told, row_reached, greatest_told, loses_more, told_more, loses_taken}
use Rattle.theory.proofs.RowLaws.{loses_absurd}
use Rattle.theory.proofs.Chain.{OnLine, LostFor, Fork, Safe, Whereabouts, ChainMember, ChainMembers, Chain}
use Rattle.theory.proofs.Chain.{not_blind_told, not_orphan_safe, chain_law}
use Rattle.theory.proofs.Chain.OnLine.{here, back}
use Rattle.theory.proofs.Chain.Fork.{after, ahead, first_lost, second_lost}
use Rattle.theory.proofs.Chain.Whereabouts.{on_path, lost, cut_off}

-- ---- lines

before_within : (nodes : List Node) (y z : ℕ) → (node_at nodes y).before ≡ Some z → y < length nodes
before_within nodes y z e = elim (dec_lt y (length nodes)) [
  | yes h ↦ h
  | no h ↦ absurd (let q = rw (node_past_end nodes y (omega arith)) at e in cc q)
]

on_line_more : {nodes : List Node} {x y : ℕ} (n : Node) → OnLine nodes x y → OnLine (n ∷ nodes) x y
on_line_more n here = here
on_line_more {nodes} n (back y z l e) =
    let within = before_within nodes y z e in
    back y z (on_line_more n l) (rw (node_older n nodes y (omega arith)) e)

-- a node depends on those of its line
pub line_depends : {nodes : List Node} {x y : ℕ} → OnLine nodes x y → DependsOn nodes x y
line_depends here = itself
line_depends {nodes} (back y z l e) =
    through (line_depends l) (has_before (node_at nodes y).before (sender_of (node_at nodes y).cause) z e)

-- a node of a path has those before it on its line
path_line : {nodes : List Node} {table : List Row} {u : ℕ} {m : Member} → SoundMember nodes table u m
    → (d i j y z : ℕ) → j + d ≡ i → slice_get m.path i ≡ Some y → slice_get m.path j ≡ Some z → OnLine nodes y z
path_line s zero i j y z k e f = let is : j ≡ i = omega arith in
    let q : y ≡ z = same_Some y z (sym e ∙ rw is at f) in rw q here
path_line {m = m} s (suc d) i j y z k e f =
    let within = slice_get_within m.path i y e in
    let r = get_below m.path (suc j) (omega arith) in
    back r.0 z (path_line s d i (suc j) y r.0 (omega arith) e r.1) (s.chained j z r.0 f r.1)

-- the line of a node of a path is on the path
pub line_on_path : {nodes : List Node} {table : List Row} {u x y : ℕ} {m : Member} → SoundMember nodes table u m
    → (i : ℕ) → slice_get m.path i ≡ Some x → OnLine nodes x y → (j : ℕ) × (j ≤ i) × (slice_get m.path j ≡ Some y)
line_on_path s i e here = (i, omega arith, e)
line_on_path {nodes} {m = m} s i e (back y z l b) =
    let r = line_on_path s i e l in
    step r.0 r.1 r.2
  where
    step : (j : ℕ) → j ≤ i → slice_get m.path j ≡ Some y → (k : ℕ) × (k ≤ i) × (slice_get m.path k ≡ Some z)
    step zero le f =
        let h = has_before (node_at nodes y).before (sender_of (node_at nodes y).cause) z b in
        absurd (let q = rw (s.first y f) at h in cc q)
    step (suc j) le f =
        let within = slice_get_within m.path (suc j) y f in
        let r = get_below m.path j (omega arith) in
        let is : r.0 ≡ z = same_Some r.0 z (sym (s.chained j r.0 y r.1 f) ∙ b) in
        (j, omega arith, rw is at r.1)

-- ---- one unit changes

chain_members : (nodes : List Node) (table : List Row) (members : List Member) (u : ℕ) (n : Member)
    → ChainMembers nodes table members → ChainMember nodes table u n → ChainMembers nodes table (slice_set members u n)
chain_members nodes table members u n s sn v m e = elim (get_set members u v n m e) [
  | inl q ↦ rw (q.0, q.1) sn
  | inr q ↦ s v m q.1
]

-- the world with one unit changed, where nodes and table stay
chain_unit : (w : World) (u : ℕ) (n : Member)
    → Chain w → Sound (with_member w u n) → ChainMember w.nodes w.table u n → Chain (with_member w u n)
chain_unit w u n c s o = record {
  sound = s;
  units = chain_members w.nodes w.table w.members u n c.units o;
  ordered = c.ordered;
  reached = c.reached;
  told = c.told;
  owned = λ x h. rw length-set (c.owned x h);
  forks = c.forks;
  pasts = c.pasts;
}

-- ---- one more node

fork_more : (table : List Row) (n : Node) (nodes : List Node) (x y : ℕ)
    → x < length nodes → y < length nodes → Fork table nodes x y → Fork table (n ∷ nodes) x y
fork_more table n nodes x y h k (after l) = after (on_line_more n l)
fork_more table n nodes x y h k (ahead l) = ahead (on_line_more n l)
fork_more table n nodes x y h k (first_lost l) = first_lost (rw (node_earlier n nodes x h, node_earlier n nodes y k) l)
fork_more table n nodes x y h k (second_lost l) =
    second_lost (rw (node_earlier n nodes x h, node_earlier n nodes y k) l)

-- what was safe stays safe
safe_more : (rows : List Row) (n : Node) (nodes : List Node)
    → Placed (n ∷ nodes) → (x : ℕ) → x < length nodes → ((y : ℕ) → DependsOn nodes x y → Safe rows (node_at nodes y))
    → (y : ℕ) → DependsOn (n ∷ nodes) x y → Safe rows (node_at (n ∷ nodes) y)
safe_more rows n nodes placed x h s y d =
    let e = depends_less n placed h d in
    let le = depends_le placed d in
    rw (node_earlier n nodes y (omega arith)) (s y e)

-- a unit that the new node is not of
chain_node : {table : List Row} {u : ℕ} {m : Member} (n : Node) (nodes : List Node) → Placed (n ∷ nodes)
    → n.unit ≢ u → SoundMember nodes table u m → ChainMember nodes table u m → ChainMember (n ∷ nodes) table u m
chain_node {table} {u} {m} n nodes placed other s c = record {
  own_known = c.own_known;
  knows = c.knows;
  safe = λ i x y e d. safe_more (take m.known table) n nodes placed x (s.made i x e) (λ z g. c.safe i x z e g) y d;
  whereabouts = λ x h k. elim (ℕ_discrete x (length nodes)) [
    | yes q ↦ absurd (other (let r = rw (node_newest n nodes x q) at k in r))
    | no q ↦ let r = node_older n nodes x q in rw r (c.whereabouts x (omega arith) (rw r at k))
  ];
}

module _ {S : Type 0} (M : Meaning S) where
  -- the past of a new node is safe by what its unit knows
  receipt_safe : (v : World) → Chain v → (u : ℕ) (m : Member) (cause : Cause)
      → slice_get v.members u ≡ Some m → MayTake M v u m cause → Placed (next_node v u m cause ∷ v.nodes)
      → (y : ℕ) → DependsOn (next_node v u m cause ∷ v.nodes) (length v.nodes) y
      → Safe (take m.known v.table) (node_at (next_node v u m cause ∷ v.nodes) y)
  receipt_safe v c u m cause found may placed y d = elim (first_step d) [
    | inl e ↦ rw (← e, new) (
      self_told (greatest_told v.table n refl),
      λ l. loses_absurd v.table n (latest_kept v.table n (omega arith)) (loses_taken v.table n m.known l),
    )
    | inr r ↦
        let hp : has (parents n) r.0 ≡ true = rw new at r.1 in
        let below = receipt_placed M v u m cause s may r.0 hp in
        safe_more (take m.known v.table) n v.nodes placed r.0 below (λ z g. parent_safe r.0 hp z g) y r.2
  ]
    where
      s : SoundMember v.nodes v.table u m
      s = c.sound.units u m found

      o : ChainMember v.nodes v.table u m
      o = c.units u m found

      n : Node
      n = next_node v u m cause

      new : node_at (n ∷ v.nodes) (length v.nodes) ≡ n
      new = node_newest n v.nodes (length v.nodes) refl

      self_told : Told v.table n → Told (take m.known v.table) n
      self_told (inl e) = inl e
      self_told (inr t) = inr (record {
        at_place = t.at_place;
        row = t.row;
        found = take_get v.table m.known t.at_place
            t.row (o.own_known t.at_place t.row t.found t.of_unit) t.found;
        of_unit = t.of_unit;
        same = t.same;
      })

      before_safe : (p : ℕ) (b : Option ℕ) → slice_get m.path (length m.path - 1) ≡ b → has (place_before b) p ≡ true
          → (z : ℕ) → DependsOn v.nodes p z → Safe (take m.known v.table) (node_at v.nodes z)
      before_safe p None q h z g = absurd (cc h)
      before_safe p (Some x) q h z g = let is : x ≡ p = only p x h in o.safe (length m.path - 1) x z q (rw is g)

      sender_safe : (cause : Cause) → MayTake M v u m cause → (p : ℕ) → has (sender_of cause) p ≡ true
          → (z : ℕ) → DependsOn v.nodes p z → Safe (take m.known v.table) (node_at v.nodes z)
      sender_safe cause (from_outside text) p h z g = absurd (cc h)
      sender_safe cause (from_letter l msg made to b f few k) p h z g =
          let is : msg.sender ≡ p = only p msg.sender h in
          let within : msg.sender < length v.nodes = letters_made M v.nodes l msg made in (
            not_blind_told v.nodes (take m.known v.table) c.sound.placed msg.sender z within b (rw is g),
            not_orphan_safe v.nodes (take m.known v.table) c.sound.placed msg.sender z within f (rw is g),
          )

      parent_safe : (p : ℕ) → has (parents n) p ≡ true
          → (z : ℕ) → DependsOn v.nodes p z → Safe (take m.known v.table) (node_at v.nodes z)
      parent_safe p h z g =
          elim (has_append (place_before (slice_get m.path (length m.path - 1))) (sender_of cause) p h) [
            | inl q ↦ before_safe p (slice_get m.path (length m.path - 1)) refl q z g
            | inr q ↦ sender_safe cause may p q z g
          ]

  -- a new node beside one of its unit
  receipt_fork : (v : World) → Chain v → (u : ℕ) (m : Member) (cause : Cause) → slice_get v.members u ≡ Some m
      → m.up ≡ true → SoundMember (next_node v u m cause ∷ v.nodes) v.table u (with_place m (length v.nodes))
      → (y : ℕ) → y < length v.nodes
      → (node_at v.nodes y).unit ≡ u → OnLine (next_node v u m cause ∷ v.nodes) (length v.nodes) y
      ⊎ LostFor v.table (node_at v.nodes y) (next_node v u m cause)
  receipt_fork v c u m cause found up s y h own = elim ((c.units u m found).whereabouts y h own) [
    | on_path e ↦
        let within = slice_get_within m.path (node_at v.nodes y).index y e in
        inl (path_line s (length m.path - (node_at v.nodes y).index)
        (length m.path) (node_at v.nodes y).index (length v.nodes) y (omega arith)
        (append_get_last m.path (length v.nodes))
        (append_get m.path (length v.nodes ∷ []) (node_at v.nodes y).index y e))
    | lost l ↦ inr (record {
      by = l;
      within = let r = row_reached v.table l.at_place l.row l.found in rw (l.of_unit ∙ own) at r;
    })
    | cut_off q t ↦ absurd (cc (q, up))
  ]

  chain_receipt : (v : World) → Chain v → (u : ℕ) (m : Member) (cause : Cause)
      → slice_get v.members u ≡ Some m → m.up ≡ true → MayTake M v u m cause → Chain (with_receipt v u m cause)
  chain_receipt v c u m cause found up may = record {
    sound = after_sound;
    units = λ x k e. elim (get_set v.members u x m' k e) [
      | inl q ↦ rw (q.0, q.1) (record {
        own_known = o.own_known;
        knows = o.knows;
        safe = λ i x y e d. elim (get_append m.path (length v.nodes) x i e) [
          | inl h ↦ safe_more (take m.known v.table) n v.nodes placed x (s.made i x h) (λ z g. o.safe i x z h g) y d
          | inr h ↦ receipt_safe v c u m cause found may placed y (rw h.1 at d)
        ];
        whereabouts = λ x h k. elim (ℕ_discrete x (length v.nodes)) [
          | yes q ↦ on_path (rw (q, new) (append_get_last m.path (length v.nodes)))
          | no q ↦ let r = node_older n v.nodes x q in rw r (still x (o.whereabouts x (omega arith) (rw r at k)))
        ];
      })
      | inr q ↦ chain_node n v.nodes placed (λ r. q.0 (sym r)) (c.sound.units x k q.1) (c.units x k q.1)
    ];
    ordered = c.ordered;
    reached = λ x h. elim (ℕ_discrete x (length v.nodes)) [
      | yes q ↦ rw (q, new) (omega arith)
      | no q ↦ rw (node_older n v.nodes x q) (c.reached x (omega arith))
    ];
    told = λ x h. elim (ℕ_discrete x (length v.nodes)) [
      | yes q ↦ rw (q, new) (greatest_told v.table n refl)
      | no q ↦ rw (node_older n v.nodes x q) (c.told x (omega arith))
    ];
    owned = λ x h. rw length-set (elim (ℕ_discrete x (length v.nodes)) [
      | yes q ↦ rw (q, new) (slice_get_within v.members u m found)
      | no q ↦ rw (node_older n v.nodes x q) (c.owned x (omega arith))
    ]);
    forks = λ x y h k same. elim (ℕ_discrete x (length v.nodes)) [
      | yes p ↦ elim (ℕ_discrete y (length v.nodes)) [
        | yes q ↦ rw (p, q) (after here)
        | no q ↦ let own : (node_at v.nodes y).unit ≡ u = sym (rw (p, new, node_older n v.nodes y q) at same) in
            rw p (elim (receipt_fork v c u m cause found up member_sound y (omega arith) own) [
              | inl l ↦ after l
              | inr l ↦ second_lost (rw (new, node_older n v.nodes y q) l)
            ])
      ]
      | no p ↦ elim (ℕ_discrete y (length v.nodes)) [
        | yes q ↦ let own : (node_at v.nodes x).unit ≡ u = rw (q, new, node_older n v.nodes x p) at same in
            rw q (elim (receipt_fork v c u m cause found up member_sound x (omega arith) own) [
              | inl l ↦ ahead l
              | inr l ↦ first_lost (rw (new, node_older n v.nodes x p) l)
            ])
        | no q ↦ fork_more v.table n v.nodes x y (omega arith) (omega arith)
            (c.forks x y (omega arith) (omega arith) (rw (node_older n v.nodes x p, node_older n v.nodes y q) at same))
      ]
    ];
    pasts = λ z h. elim (ℕ_discrete z (length v.nodes)) [
      | yes q ↦
          rw q (record { rows = m.known; enough = o.knows; all_safe = receipt_safe v c u m cause found may placed })
      | no q ↦ let p = c.pasts z (omega arith) in record {
        rows = p.rows;
        enough = p.enough;
        all_safe = safe_more (take p.rows v.table) n v.nodes placed z (omega arith) p.all_safe;
      }
    ];
  }
    where
      n : Node
      n = next_node v u m cause

      m' : Member
      m' = with_place m (length v.nodes)

      s : SoundMember v.nodes v.table u m
      s = c.sound.units u m found

      o : ChainMember v.nodes v.table u m
      o = c.units u m found

      after_sound : Sound (with_receipt v u m cause)
      after_sound = sound_change M c.sound (receives u m cause found up may)

      placed : Placed (n ∷ v.nodes)
      placed = after_sound.placed

      new : node_at (n ∷ v.nodes) (length v.nodes) ≡ n
      new = node_newest n v.nodes (length v.nodes) refl

      member_sound : SoundMember (n ∷ v.nodes) v.table u m'
      member_sound = after_sound.units u m' (set_get_same v.members u m' m found)

      still : (x : ℕ) → Whereabouts v.table m.path m.up x (node_at v.nodes x)
          → Whereabouts v.table m'.path m'.up x (node_at v.nodes x)
      still x (on_path e) = on_path (append_get m.path (length v.nodes ∷ []) (node_at v.nodes x).index x e)
      still x (lost l) = lost l
      still x (cut_off q t) = absurd (cc (q, up))

-- ---- a kill

chain_kill : (v : World) → Chain v → (u : ℕ) (m : Member)
    → slice_get v.members u ≡ Some m → Sound (with_member v u (killed m)) → Chain (with_member v u (killed m))
chain_kill v c u m found s =
    let o = c.units u m found in
    let t = c.sound.units u m found in
    chain_unit v u (killed m) c s (record {
      own_known = o.own_known;
      knows = o.knows;
      safe = λ i x y e d. o.safe i x y (get_take m.path m.stable i x e).0 d;
      whereabouts = λ x h k. cut (node_at v.nodes x) x t.logged (o.whereabouts x h k);
    })
  where
    cut : (n : Node) (x : ℕ) → m.stable ≤ length m.path
        → Whereabouts v.table m.path m.up x n → Whereabouts v.table (take m.stable m.path) false x n
    cut n x h (on_path e) = elim (dec_lt n.index m.stable) [
      | yes l ↦ on_path (take_get m.path m.stable n.index x l e)
      | no l ↦ cut_off refl (rw (length-take m.stable m.path) (omega arith))
    ]
    cut n x h (lost l) = lost l
    cut n x h (cut_off q t) = cut_off refl (rw (length-take m.stable m.path) (omega arith))

-- ---- learning the rows

-- the nodes of the path that is kept are safe by all rows
kept_safe : (v : World) → Chain v → (u : ℕ) (m : Member) → slice_get v.members u ≡ Some m
    → (i x y : ℕ) → slice_get (path_kept v m) i ≡ Some x → DependsOn v.nodes x y → Safe v.table (node_at v.nodes y)
kept_safe v c u m found i x y e d =
    let t = get_take_while _ m.path i x e in
    let within = (c.sound.units u m found).made i x t.0 in
    let le = depends_le c.sound.placed d in
    let passes = take_while_passes _ m.path i x e in
    (c.told y (omega arith), not_orphan_safe v.nodes v.table c.sound.placed x y within (not_true _ passes) d)

chain_learn : (v : World) → Chain v
    → (u : ℕ) (m : Member) → slice_get v.members u ≡ Some m → length m.path ≤ length (path_kept v m)
    → Sound (with_member v u (with_known m (length v.table))) → Chain (with_member v u (with_known m (length v.table)))
chain_learn v c u m found whole s =
    let o = c.units u m found in
    chain_unit v u (with_known m (length v.table)) c s (record {
      own_known = λ i r e k. slice_get_within v.table i r e;
      knows = omega arith;
      safe = λ i x y e d. rw (take-length v.table) (
          let within = slice_get_within m.path i x e in
          let g = get_below (path_kept v m) i (omega arith) in
          let is : g.0 ≡ x = same_Some g.0 x (sym (get_take_while _ m.path i g.0 g.1).0 ∙ e) in
          kept_safe v c u m found i x y (rw is at g.1) d);
      whereabouts = o.whereabouts;
    })

-- ---- going back

fork_row : (table : List Row) (r : Row) (nodes : List Node) (x y : ℕ)
    → Fork table nodes x y → Fork (table ++ r ∷ []) nodes x y
fork_row table r nodes x y (after l) = after l
fork_row table r nodes x y (ahead l) = ahead l
fork_row table r nodes x y (first_lost l) = first_lost (record { by = loses_more (r ∷ []) l.by; within = l.within })
fork_row table r nodes x y (second_lost l) = second_lost (record { by = loses_more (r ∷ []) l.by; within = l.within })

where_row : (table : List Row) (r : Row) (path : List ℕ) (up : Bool) (x : ℕ) (n : Node)
    → Whereabouts table path up x n → Whereabouts (table ++ r ∷ []) path up x n
where_row table r path up x n (on_path e) = on_path e
where_row table r path up x n (lost l) = lost (loses_more (r ∷ []) l)
where_row table r path up x n (cut_off q t) = cut_off q t

-- what the row of a unit that goes back loses
row_loses : (table : List Row) (r : Row) (n : Node)
    → r.unit ≡ n.unit → n.incarnation < r.incarnation → r.start ≤ n.index → Loses (table ++ r ∷ []) n
row_loses table r n e l b =
    record { at_place = length table; row = r; found = append_get_last table r; of_unit = e; later = l; before = b }

-- a row past the front changes nothing of the front
front_row : (table : List Row) (r : Row) (k : ℕ) → k ≤ length table → take k (table ++ r ∷ []) ≡ take k table
front_row table r k h = take-append-le k table (r ∷ []) h

module _ {S : Type 0} (M : Meaning S) where
  -- going back keeps the chain
  pub chain_back : (v : World) → Chain v → (u : ℕ) (m : Member) → slice_get v.members u ≡ Some m
      → nat_le MAX_INCARNATION (incarnation_of v.table u) ≡ false → Chain (gone_back v u m (path_kept v m))
  chain_back v c u m found room = record {
    sound = after_sound;
    units = λ x k e. elim (get_set v.members u x m' k e) [
      | inl q ↦ rw (q.0, q.1) (record {
        own_known = λ i row e _. rw plus at (slice_get_within table' i row e);
        knows = rw plus (omega arith);
        safe = λ i x y e d. rw (known_all) (own_safe i x y e d);
        whereabouts = λ x h k. own_where x h k (o.whereabouts x h k);
      })
      | inr q ↦ let p = c.units x k q.1 in record {
        own_known = λ i row e h. elim (get_append v.table r row i e) [
          | inl f ↦ p.own_known i row f h
          | inr f ↦ absurd (q.0 (sym h ∙ ap (λ z. z.unit) f.1))
        ];
        knows = rw plus (omega (arith, p.knows));
        safe = λ i x y e d. rw (front_row v.table r k.known p.knows) (p.safe i x y e d);
        whereabouts = λ x h l. where_row v.table r k.path k.up x (node_at v.nodes x) (p.whereabouts x h l);
      }
    ];
    ordered = λ i j a b l e f same. elim (get_append v.table r b j f) [
      | inl g ↦ elim (get_append v.table r a i e) [
        | inl h ↦ c.ordered i j a b l h g same
        | inr h ↦ absurd (omega (arith, h.0, slice_get_within v.table j b g))
      ]
      | inr g ↦ elim (get_append v.table r a i e) [
        | inl h ↦ let t = row_reached v.table i a h in
            let t' = rw (same ∙ ap (λ z. z.unit) g.1) at t in rw g.1 (omega arith)
        | inr h ↦ absurd (omega (arith, h.0, g.0))
      ]
    ];
    reached = λ x h. omega (arith, c.reached x h, incarnation_more v.table r (node_at v.nodes x).unit);
    told = λ x h. told_more (r ∷ []) (c.told x h);
    owned = λ x h. rw length-set (c.owned x h);
    forks = λ x y h k same. fork_row v.table r v.nodes x y (c.forks x y h k same);
    pasts = λ z h. let p = c.pasts z h in record {
      rows = p.rows;
      enough = rw plus (omega (arith, p.enough));
      all_safe = λ y d. rw (front_row v.table r p.rows p.enough) (p.all_safe y d);
    };
  }
    where
      path : List ℕ
      path = path_kept v m

      r : Row
      r = row_for v u path

      table' : List Row
      table' = v.table ++ r ∷ []

      m' : Member
      m' = back_at m path (length v.table + 1)

      s : SoundMember v.nodes v.table u m
      s = c.sound.units u m found

      o : ChainMember v.nodes v.table u m
      o = c.units u m found

      after_sound : Sound (gone_back v u m (path_kept v m))
      after_sound = sound_change M c.sound (goes_back u m found room)

      plus : length table' ≡ length v.table + 1
      plus = length-append v.table (r ∷ [])

      known_all : take (length v.table + 1) table' ≡ table'
      known_all = rw (← plus) (take-length table')

      -- the unit's own nodes in the past of a node of its path stand before it
      own_before : (i x y : ℕ) → slice_get path i ≡ Some x
          → DependsOn v.nodes x y → (node_at v.nodes y).unit ≡ u → (node_at v.nodes y).index < length path
      own_before i x y e d own =
          let t = get_take_while _ m.path i x e in
          let within = s.made i x t.0 in
          let le = depends_le c.sound.placed d in
          elim (chain_law v c x x y within itself d (s.own i x t.0 ∙ sym own)) [
            | inl l ↦ let p = line_on_path s i t.0 l in rw (s.indexed p.0 y p.2) (omega (arith, p.1, t.1))
            | inr l ↦
                let ge = depends_le c.sound.placed (line_depends l) in
                let is : x ≡ y = omega arith in
                rw (← is, s.indexed i x t.0) t.1
          ]

      own_safe : (i x y : ℕ) → slice_get path i ≡ Some x → DependsOn v.nodes x y → Safe table' (node_at v.nodes y)
      own_safe i x y e d =
          let k = kept_safe v c u m found i x y e d in (
            told_more (r ∷ []) k.0,
            λ l. elim (get_append v.table r l.row l.at_place l.found) [
              | inl h ↦ k.1 (record {
                at_place = l.at_place;
                row = l.row;
                found = h;
                of_unit = l.of_unit;
                later = l.later;
                before = l.before;
              })
              | inr h ↦
                  let own : (node_at v.nodes y).unit ≡ u = sym l.of_unit ∙ ap (λ z. z.unit) h.1 in
                  let below = own_before i x y e d own in
                  let b : r.start ≤ (node_at v.nodes y).index = rw h.1 at l.before in
                  absurd (omega arith)
            ],
          )

      own_where : (x : ℕ) → x < length v.nodes → (node_at v.nodes x).unit ≡ u
          → Whereabouts v.table m.path m.up x (node_at v.nodes x) → Whereabouts table' path true x (node_at v.nodes x)
      own_where x h k (on_path e) = elim (dec_lt (node_at v.nodes x).index (length path)) [
        | yes l ↦
            let g = get_below path (node_at v.nodes x).index l in
            let is : g.0 ≡ x = same_Some g.0 x (sym (get_take_while _ m.path _ g.0 g.1).0 ∙ e) in
            on_path (rw is at g.1)
        | no l ↦ lost (row_loses v.table r (node_at v.nodes x) (sym k) (below_next x h k) (omega arith))
      ]
        where
          below_next : (x : ℕ)
              → x < length v.nodes → (node_at v.nodes x).unit ≡ u → (node_at v.nodes x).incarnation < r.incarnation
          below_next x h k = let t = c.reached x h in let t' = rw k at t in omega arith
      own_where x h k (lost l) = lost (loses_more (r ∷ []) l)
      own_where x h k (cut_off q t) =
          let a = c.reached x h in let b = rw k at a in
          let le : length path ≤ length m.path = take_while_le _ m.path in
          lost (row_loses v.table r (node_at v.nodes x) (sym k) (omega arith) (omega arith))

-- ---- one more unit

chain_unit_more : (home kind : ℕ) (w : World) → Chain w → Chain (with_unit home w kind)
chain_unit_more home kind w c = record {
  sound = after_sound;
  units = λ u m e. elim (get_append w.members _ m u e) [
    | inl h ↦ chain_node n w.nodes placed (λ q. let t = slice_get_within w.members u m h in
        omega (arith, q)) (c.sound.units u m h) (c.units u m h)
    | inr h ↦ rw (h.0, h.1) (record {
      own_known = λ i r f _. slice_get_within w.table i r f;
      knows = omega arith;
      safe = λ i x y f d. let k = (single (length w.nodes) i x f).1 in begin_safe (length w.table) y (rw k at d);
      whereabouts = λ x t k. elim (ℕ_discrete x (length w.nodes)) [
        | yes q ↦ on_path (rw (q, new) refl)
        | no q ↦ let r = rw (node_older n w.nodes x q) at k in let b = c.owned x (omega arith) in absurd (omega arith)
      ];
    })
  ];
  ordered = c.ordered;
  reached = λ x h. elim (ℕ_discrete x (length w.nodes)) [
    | yes q ↦ rw (q, new) (omega arith)
    | no q ↦ rw (node_older n w.nodes x q) (c.reached x (omega arith))
  ];
  told = λ x h. elim (ℕ_discrete x (length w.nodes)) [
    | yes q ↦ rw (q, new) (inl refl)
    | no q ↦ rw (node_older n w.nodes x q) (c.told x (omega arith))
  ];
  owned = λ x h. rw (length-append w.members) (elim (ℕ_discrete x (length w.nodes)) [
    | yes q ↦ rw (q, new) (omega arith)
    | no q ↦ rw (node_older n w.nodes x q) (omega (arith, c.owned x (omega arith)))
  ]);
  forks = λ x y h k same. elim (ℕ_discrete x (length w.nodes)) [
    | yes p ↦ elim (ℕ_discrete y (length w.nodes)) [
      | yes q ↦ rw (p, q) (after here)
      | no q ↦ let r = rw (p, new, node_older n w.nodes y q) at same in
          let b = c.owned y (omega arith) in absurd (omega arith)
    ]
    | no p ↦ elim (ℕ_discrete y (length w.nodes)) [
      | yes q ↦ let r = rw (q, new, node_older n w.nodes x p) at same in
          let b = c.owned x (omega arith) in absurd (omega arith)
      | no q ↦ fork_more w.table n w.nodes x y (omega arith) (omega arith)
          (c.forks x y (omega arith) (omega arith) (rw (node_older n w.nodes x p, node_older n w.nodes y q) at same))
    ]
  ];
  pasts = λ z h. elim (ℕ_discrete z (length w.nodes)) [
    | yes q ↦ rw q (record { rows = 0; enough = omega arith; all_safe = λ y d. begin_safe 0 y d })
    | no q ↦ let p = c.pasts z (omega arith) in record {
      rows = p.rows;
      enough = p.enough;
      all_safe = safe_more (take p.rows w.table) n w.nodes placed z (omega arith) p.all_safe;
    }
  ];
}
  where
    n : Node
    n = beginning (new_seat home w kind) home

    after_sound : Sound (with_unit home w kind)
    after_sound = sound_with_unit home kind w c.sound

    placed : Placed (n ∷ w.nodes)
    placed = after_sound.placed

    new : node_at (n ∷ w.nodes) (length w.nodes) ≡ n
    new = node_newest n w.nodes (length w.nodes) refl

    kept_all : ¬ Loses w.table n
    kept_all l = let b = c.sound.starts l.at_place l.row l.found in let t = l.before in omega arith

    begin_safe : (k y : ℕ) → DependsOn (n ∷ w.nodes) (length w.nodes) y
        → Safe (take k w.table) (node_at (n ∷ w.nodes) y)
    begin_safe k y d = elim (first_step d) [
      | inl e ↦ rw (← e, new) (inl refl, λ l. kept_all (loses_taken w.table n k l))
      | inr r ↦ absurd (let h = rw new at r.1 in cc h)
    ]

module _ {S : Type 0} (M : Meaning S) where
  -- a change keeps the chain
  pub chain_change : {v w : World} → Chain v → Change M v w → Chain w
  chain_change c unchanged = c
  chain_change {v} c (receives u m cause found up may) = chain_receipt M v c u m cause found up may
  chain_change {v} c (flushes u k m found h) = let o = c.units u m found in
      chain_unit v u (flushed m k) c (sound_change M c.sound (flushes u k m found h))
      (record { own_known = o.own_known; knows = o.knows; safe = o.safe; whereabouts = o.whereabouts })
  chain_change {v} c (dies u m found) = chain_kill v c u m found (sound_change M c.sound (dies u m found))
  chain_change {v} c (goes_back u m found room) = chain_back M v c u m found room
  chain_change {v} c (learns u m found h) = chain_learn v c u m found h (sound_change M c.sound (learns u m found h))
  chain_change {v} c (releases u m found) = let o = c.units u m found in
      chain_unit v u (with_released m (map (λ o. o.1) (releasable M v m))) c (sound_change M c.sound (releases u m
      found)) (record { own_known = o.own_known; knows = o.knows; safe = o.safe; whereabouts = o.whereabouts })
  chain_change {v} c (joins kind room) = chain_unit_more (length v.members + 1) kind v c

-- ---- from the opening on

empty_chain : (quota : Quota) (optimism : ℕ)
    → Chain (record { quota = quota; optimism = optimism; members = []; nodes = []; table = [] })
empty_chain quota optimism = record {
  sound = record { placed = λ x p e. absurd (cc e); units = λ u m e. absurd (cc e); starts = λ i r e. absurd (cc e) };
  units = λ u m e. absurd (cc e);
  ordered = λ i j r q h e f k. absurd (cc e);
  reached = λ x h. absurd (omega arith);
  told = λ x h. absurd (omega arith);
  owned = λ x h. absurd (omega arith);
  forks = λ x y h k e. absurd (omega arith);
  pasts = λ z h. absurd (omega arith);
}

all_units_chain : {X : Type 0} (home : ℕ) (kind : X → ℕ) (names : List X) (w : World)
    → Chain w → Chain (fold (λ w n. with_unit home w (kind n)) w names)
all_units_chain home kind [] w c = c
all_units_chain home kind (n ∷ names) w c =
    all_units_chain home kind names (with_unit home w (kind n)) (chain_unit_more home (kind n) w c)

module _ {S : Type 0} (M : Meaning S) where
  open_chain : (names : List (List ℕ)) (quota : Quota) (optimism : ℕ) (w : World)
      → (open_new M names quota optimism).world ≡ Some w → Chain w
  open_chain names quota optimism w e = go (can_open M names quota optimism) e
    where
      go : (b : Bool) → (cond b (opened_with M names quota optimism)
          (record { reply = Refused BadOpen; world = None })).world ≡ Some w → Chain w
      go false h = absurd (cc h)
      go true h = subst Chain (same_Some _ w h)
          (all_units_chain (length names) (λ n. kind_or_0 (M.kind n)) names _ (empty_chain quota optimism))

  -- it holds of a world just opened
  pub first_chain : (step : TenantStep) (w : World) → (step_unopened M step).world ≡ Some w → Chain w
  first_chain (Open kinds quota optimism) w e = open_chain kinds quota optimism w e
  first_chain (Join kind) w e = absurd (cc e)
  first_chain (Post unit number text) w e = absurd (cc e)
  first_chain (Deliver l) w e = absurd (cc e)
  first_chain (Flush unit) w e = absurd (cc e)
  first_chain (Checkpoint unit) w e = absurd (cc e)
  first_chain (Kill unit) w e = absurd (cc e)
  first_chain (Restart unit) w e = absurd (cc e)
  first_chain (Notice unit) w e = absurd (cc e)
  first_chain (Release unit) w e = absurd (cc e)
  first_chain (Status unit) w e = absurd (cc e)

-- Which nodes are beginnings, how many units there are before each node, and that each node sits at its unit's seat.
use Rattle.std.proofs.Common.{◌≡◌, inl, inr, refl, sym, ◌∙◌, ap, subst, ℕ, zero, suc, ◌+◌, ◌<◌, ◌≤◌, Bool, true, false}
use Rattle.std.proofs.Common.{cond, ◌&&◌, List, [], ◌∷◌, ◌++◌, length, arith, length-append, length-set}
use Rattle.std.specs.Prelude.{Some, None, slice_get, slice_set, nat_le}
use Rattle.std.specs.List.{fold}
use Rattle.std.proofs.lemmas.Bool.Decides.{nat_tests}
use Rattle.std.proofs.lemmas.Option.{slice_get_within, same_Some}
use native.Mathlib.Decide.{ℕ_discrete}
use Rattle.model.specs.declared.names.Quota.{Quota}
use Rattle.model.specs.declared.names.Seat.{Seat}
use Rattle.model.specs.declared.refusals.Refusal.TheVariants.{BadOpen}
use Rattle.model.specs.declared.replies.Reply.TheVariants.{Refused}
use Rattle.model.specs.declared.steps.TenantStep.{TenantStep}
use Rattle.model.specs.declared.steps.TenantStep.TheVariants.{Open, Join, Post, Deliver, Flush, Checkpoint, Kill}
use Rattle.model.specs.declared.steps.TenantStep.TheVariants.{Restart, Notice, Release, Status}
use Rattle.model.specs.Handler.{Meaning}
use Rattle.model.specs.Nodes.{Node, Cause, began, outside, letter, node_at}
use Rattle.model.specs.World.{World, Member}
use Rattle.model.specs.Steps.{with_unit, path_kept, next_node, fresh, beginning, open_new, opened_with, can_open}
use Rattle.model.specs.Steps.{kind_or_0, with_place, killed, back_at}
use Rattle.model.specs.FailureFree.{opening_units}
use Rattle.model.specs.Alone.{step_unopened}
use Rattle.model.proofs.Places.{get_below}
use Rattle.theory.proofs.ListLaws.{get_set, get_append, take_get, and_both, get_take_while, le_true, append_get}
use Rattle.theory.proofs.Pasts.{node_newest, node_older}
use Rattle.theory.proofs.Changes.{Change, MayTake, new_seat}
use Rattle.theory.proofs.Changes.Change.{unchanged, receives, flushes, dies, goes_back, learns, releases, joins}
use Rattle.theory.proofs.Changes.MayTake.{from_outside, from_letter}
use Rattle.theory.proofs.Invariants.{Sound, kept_some}

-- whether the node is the beginning of a unit
abbrev pub is_began : Cause → Bool
is_began began = true
is_began (outside number text) = false
is_began (letter l s) = false

-- how many units there are before the k-th node, where there were o at first
abbrev pub units_at : ℕ → List Node → ℕ → ℕ
units_at o nodes zero = o
units_at o nodes (suc k) =
    cond (nat_le o k && is_began (node_at nodes k).cause) (suc (units_at o nodes k)) (units_at o nodes k)

units_more : (o : ℕ) (n : Node) (nodes : List Node) (k : ℕ)
    → k ≤ length nodes → units_at o (n ∷ nodes) k ≡ units_at o nodes k
units_more o n nodes zero h = refl
units_more o n nodes (suc k) h = rw (node_older n nodes k (omega arith), units_more o n nodes k (omega arith)) refl

-- the first nodes have all units of the opening before them
pub units_first : (o : ℕ) (nodes : List Node) (k : ℕ) → k ≤ o → units_at o nodes k ≡ o
units_first o nodes zero h = refl
units_first o nodes (suc k) h = let t : nat_le o k ≡ false = grind (arith, nat_tests) in
    rw t (units_first o nodes k (omega arith))

-- there are never fewer than at the opening
pub units_above : (o : ℕ) (nodes : List Node) (k : ℕ) → o ≤ units_at o nodes k
units_above o nodes zero = omega arith
units_above o nodes (suc k) = go (nat_le o k && is_began (node_at nodes k).cause) (units_above o nodes k)
  where
    go : (b : Bool) → o ≤ units_at o nodes k → o ≤ cond b (suc (units_at o nodes k)) (units_at o nodes k)
    go true h = omega arith
    go false h = h

-- units are never taken away
pub units_step_le : (o : ℕ) (nodes : List Node) (j k : ℕ) → j ≤ k → units_at o nodes j ≤ units_at o nodes k
units_step_le o nodes j zero h = let e : j ≡ 0 = omega arith in rw e (omega arith)
units_step_le o nodes j (suc k) h = elim (ℕ_discrete j (suc k)) [
  | yes q ↦ rw q (omega arith)
  | no q ↦ go (nat_le o k && is_began (node_at nodes k).cause) (units_step_le o nodes j k (omega arith))
]
  where
    go : (b : Bool) → units_at o nodes j ≤ units_at o nodes k
        → units_at o nodes j ≤ cond b (suc (units_at o nodes k)) (units_at o nodes k)
    go true t = omega arith
    go false t = t

-- where o units were opened: which nodes are beginnings, and how many units there are before each node
pub record Counted (o : ℕ) (nodes : List Node) (members : List Member) : Type 0 where
  pub opening : opening_units members ≡ o
  pub not_empty : 1 ≤ o
  pub enough : o ≤ length nodes
  pub within : o ≤ length members
  pub few : length members ≤ 16
  pub total : units_at o nodes (length nodes) ≡ length members
  pub first : (x : ℕ) → x < o → is_began (node_at nodes x).cause ≡ true
  pub first_unit : (x : ℕ) → x < o → (node_at nodes x).unit < o
  pub joined : (x : ℕ) → x < length nodes
      → o ≤ x → is_began (node_at nodes x).cause ≡ true → (node_at nodes x).unit ≡ units_at o nodes x
  pub first_units : (x : ℕ) → x < o → (node_at nodes x).units ≡ o
  pub joined_units : (x : ℕ) → x < length nodes
      → o ≤ x → is_began (node_at nodes x).cause ≡ true → (node_at nodes x).units ≡ (node_at nodes x).unit + 1
  pub others : (x : ℕ) → x < length nodes
      → is_began (node_at nodes x).cause ≡ false → (node_at nodes x).units ≡ units_at o nodes x
  pub present : (x : ℕ) → x < length nodes
      → is_began (node_at nodes x).cause ≡ false → (node_at nodes x).unit < units_at o nodes x
  pub homes : (u : ℕ) (m : Member) → slice_get members u ≡ Some m → o ≤ u → m.seat.home ≡ u + 1
  pub heads : (x : ℕ) (m : Member) → x < length nodes → is_began (node_at nodes x).cause ≡ true
      → slice_get members (node_at nodes x).unit ≡ Some m → slice_get m.path 0 ≡ Some x
  pub seated : (x : ℕ) (m : Member)
      → x < length nodes → slice_get members (node_at nodes x).unit ≡ Some m → (node_at nodes x).seat ≡ m.seat

opening_set : (members : List Member) (u : ℕ) (m n : Member)
    → slice_get members u ≡ Some m → n.seat ≡ m.seat → opening_units (slice_set members u n) ≡ opening_units members
opening_set [] u m n e h = refl
opening_set (q ∷ members) zero m n e h = let is : q ≡ m = same_Some q m e in
    ap (λ s. s.home) h ∙ ap (λ z. z.seat.home) (sym is)
opening_set (q ∷ members) (suc u) m n e h = refl

opening_more : (members more : List Member)
    → 1 ≤ length members → opening_units (members ++ more) ≡ opening_units members
opening_more [] more h = absurd (omega arith)
opening_more (m ∷ members) more h = refl

counted_set : (o : ℕ) (nodes : List Node) (members : List Member) (u : ℕ) (m n : Member)
    → slice_get members u ≡ Some m → n.seat ≡ m.seat
    → ((x : ℕ) → slice_get m.path 0 ≡ Some x → slice_get n.path 0 ≡ Some x)
    → Counted o nodes members → Counted o nodes (slice_set members u n)
counted_set o nodes members u m n found seat head c = record {
  opening = opening_set members u m n found seat ∙ c.opening;
  not_empty = c.not_empty;
  enough = c.enough;
  within = rw length-set c.within;
  few = rw length-set c.few;
  total = c.total ∙ sym (length-set members u n);
  first = c.first;
  first_unit = c.first_unit;
  joined = c.joined;
  first_units = c.first_units;
  joined_units = c.joined_units;
  others = c.others;
  present = c.present;
  homes = λ v q e le. elim (get_set members u v n q e) [
    | inl k ↦ rw (k.1, seat, k.0) (c.homes u m found (omega (arith, k.0)))
    | inr k ↦ c.homes v q k.1 le
  ];
  heads = λ x q h b e. elim (get_set members u (node_at nodes x).unit n q e) [
    | inl k ↦ rw k.1 (head x (c.heads x m h b (rw k.0 found)))
    | inr k ↦ c.heads x q h b k.1
  ];
  seated = λ x q h e. elim (get_set members u (node_at nodes x).unit n q e) [
    | inl k ↦ c.seated x m h (rw k.0 found) ∙ sym seat ∙ ap (λ z. z.seat) (sym k.1)
    | inr k ↦ c.seated x q h k.1
  ];
}

counted_node : (o : ℕ) (n : Node) (nodes : List Node) (members : List Member) (p : Member)
    → is_began n.cause ≡ false → n.units ≡ length members
    → slice_get members n.unit ≡ Some p → n.seat ≡ p.seat → Counted o nodes members → Counted o (n ∷ nodes) members
counted_node o n nodes members p plain units owner seat c = record {
  opening = c.opening;
  not_empty = c.not_empty;
  enough = let t = c.enough in omega arith;
  within = c.within;
  few = c.few;
  total = rw (
    node_newest n nodes (length nodes) refl,
    plain,
    no_and (nat_le o (length nodes)),
    units_more o n nodes (length nodes) (omega arith),
  ) c.total;
  first = λ x h. let t = c.enough in rw (node_older n nodes x (omega arith)) (c.first x h);
  first_unit = λ x h. let t = c.enough in rw (node_older n nodes x (omega arith)) (c.first_unit x h);
  joined = λ x h le b. elim (ℕ_discrete x (length nodes)) [
    | yes q ↦ let k = rw (node_newest n nodes x q) at b in absurd (cc (k, plain))
    | no q ↦ let k = rw (node_older n nodes x q) at b in
        rw (node_older n nodes x q, units_more o n nodes x (omega arith)) (c.joined x (omega arith) le k)
  ];
  first_units = λ x h. let t = c.enough in rw (node_older n nodes x (omega arith)) (c.first_units x h);
  joined_units = λ x h le b. elim (ℕ_discrete x (length nodes)) [
    | yes q ↦ let k = rw (node_newest n nodes x q) at b in absurd (cc (k, plain))
    | no q ↦ let k = rw (node_older n nodes x q) at b in
        rw (node_older n nodes x q) (c.joined_units x (omega arith) le k)
  ];
  others = λ x h b. elim (ℕ_discrete x (length nodes)) [
    | yes q ↦ rw (
      node_newest n nodes x q,
      units_more o n nodes x (omega arith),
      units,
    ) (sym c.total ∙ ap (units_at o nodes) (sym q))
    | no q ↦ let k = rw (node_older n nodes x q) at b in
        rw (node_older n nodes x q, units_more o n nodes x (omega arith)) (c.others x (omega arith) k)
  ];
  present = λ x h b. elim (ℕ_discrete x (length nodes)) [
    | yes q ↦ rw (node_newest n nodes x q, units_more o n nodes x (omega arith))
        (let t : units_at o nodes x ≡ length members = ap (units_at o nodes) q ∙ c.total in
        let z = slice_get_within members n.unit p owner in omega arith)
    | no q ↦ let k = rw (node_older n nodes x q) at b in
        rw (node_older n nodes x q, units_more o n nodes x (omega arith)) (c.present x (omega arith) k)
  ];
  homes = c.homes;
  heads = λ x m h b e. elim (ℕ_discrete x (length nodes)) [
    | yes q ↦ let k = rw (node_newest n nodes x q) at b in absurd (cc (k, plain))
    | no q ↦ let k = rw (node_older n nodes x q) at b in
        let f = rw (node_older n nodes x q) at e in c.heads x m (omega arith) k f
  ];
  seated = λ x m h e. elim (ℕ_discrete x (length nodes)) [
    | yes q ↦ let f = rw (node_newest n nodes x q) at e in
        rw (node_newest n nodes x q) (seat ∙ ap (λ z. z.seat) (same_Some p m (sym owner ∙ f)))
    | no q ↦ let f = rw (node_older n nodes x q) at e in rw (node_older n nodes x q) (c.seated x m (omega arith) f)
  ];
}
  where
    no_and : (b : Bool) → (b && false) ≡ false
    no_and true = refl
    no_and false = refl

counted_join : (o kind : ℕ) (w : World) → nat_le 16 (length w.members) ≡ false → Counted o w.nodes w.members
    → ((x : ℕ) → x < length w.nodes → (node_at w.nodes x).unit < length w.members)
    → Counted o (with_unit (length w.members + 1) w kind).nodes (with_unit (length w.members + 1) w kind).members
counted_join o kind w room c owned = record {
  opening = let t = c.within in let s = c.not_empty in opening_more w.members (new ∷ []) (omega arith) ∙ c.opening;
  not_empty = c.not_empty;
  enough = let t = c.enough in omega arith;
  within = let t = c.within in rw (length-append w.members (new ∷ [])) (omega arith);
  few = rw (length-append w.members (new ∷ []))
      (let t : length w.members < 16 = grind (arith, nat_tests) in omega arith);
  total = rw (
    length-append w.members (new ∷ []),
    node_newest n w.nodes (length w.nodes) refl,
    le,
    units_more o n w.nodes (length w.nodes) (omega arith),
    c.total,
  ) (omega arith);
  first = λ x h. let t = c.enough in rw (node_older n w.nodes x (omega arith)) (c.first x h);
  first_unit = λ x h. let t = c.enough in rw (node_older n w.nodes x (omega arith)) (c.first_unit x h);
  joined = λ x h k b. elim (ℕ_discrete x (length w.nodes)) [
    | yes q ↦ rw (
      node_newest n w.nodes x q,
      units_more o n w.nodes x (omega arith),
    ) (sym c.total ∙ ap (units_at o w.nodes) (sym q))
    | no q ↦ let f = rw (node_older n w.nodes x q) at b in
        rw (node_older n w.nodes x q, units_more o n w.nodes x (omega arith)) (c.joined x (omega arith) k f)
  ];
  first_units = λ x h. let t = c.enough in rw (node_older n w.nodes x (omega arith)) (c.first_units x h);
  joined_units = λ x h k b. elim (ℕ_discrete x (length w.nodes)) [
    | yes q ↦ rw (node_newest n w.nodes x q) refl
    | no q ↦ let f = rw (node_older n w.nodes x q) at b in
        rw (node_older n w.nodes x q) (c.joined_units x (omega arith) k f)
  ];
  others = λ x h b. elim (ℕ_discrete x (length w.nodes)) [
    | yes q ↦ let f = rw (node_newest n w.nodes x q) at b in absurd (cc f)
    | no q ↦ let f = rw (node_older n w.nodes x q) at b in
        rw (node_older n w.nodes x q, units_more o n w.nodes x (omega arith)) (c.others x (omega arith) f)
  ];
  present = λ x h b. elim (ℕ_discrete x (length w.nodes)) [
    | yes q ↦ let f = rw (node_newest n w.nodes x q) at b in absurd (cc f)
    | no q ↦ let f = rw (node_older n w.nodes x q) at b in
        rw (node_older n w.nodes x q, units_more o n w.nodes x (omega arith)) (c.present x (omega arith) f)
  ];
  homes = λ u m e k. elim (get_append w.members new m u e) [ inl h ↦ c.homes u m h k | inr h ↦ rw (h.1, h.0) refl ];
  heads = λ x m h b e. elim (ℕ_discrete x (length w.nodes)) [
    | yes q ↦ let f = rw (node_newest n w.nodes x q) at e in
        elim (get_append w.members new m (length w.members) f) [
          | inl k ↦ absurd (let t = slice_get_within w.members (length w.members) m k in omega arith)
          | inr k ↦ rw (k.1, q) refl
        ]
    | no q ↦ let f = rw (node_older n w.nodes x q) at b in let g = rw (node_older n w.nodes x q) at e in
        elim (get_append w.members new m (node_at w.nodes x).unit g) [
          | inl k ↦ c.heads x m (omega arith) f k
          | inr k ↦ absurd (let t = owned x (omega arith) in let k0 = k.0 in omega arith)
        ]
  ];
  seated = λ x m h e. elim (ℕ_discrete x (length w.nodes)) [
    | yes q ↦ let f = rw (node_newest n w.nodes x q) at e in
        elim (get_append w.members new m (length w.members) f) [
          | inl k ↦ absurd (let t = slice_get_within w.members (length w.members) m k in omega arith)
          | inr k ↦ rw (node_newest n w.nodes x q) (ap (λ z. z.seat) (sym k.1))
        ]
    | no q ↦ let f = rw (node_older n w.nodes x q) at e in
        elim (get_append w.members new m (node_at w.nodes x).unit f) [
          | inl k ↦ rw (node_older n w.nodes x q) (c.seated x m (omega arith) k)
          | inr k ↦ absurd (let t = owned x (omega arith) in let k0 = k.0 in omega arith)
        ]
  ];
}
  where
    seat : Seat
    seat = new_seat (length w.members + 1) w kind

    n : Node
    n = beginning seat (length w.members + 1)

    new : Member
    new = fresh seat (length w.nodes) (length w.table)

    le : nat_le o (length w.nodes) ≡ true
    le = let t = c.enough in grind (arith, nat_tests)

receipt_plain : {S : Type 0} (M : Meaning S) (v : World) (u : ℕ) (m : Member) (cause : Cause)
    → MayTake M v u m cause → is_began cause ≡ false
receipt_plain M v u m _ (from_outside text) = refl
receipt_plain M v u m _ (from_letter l msg made to b o few k) = refl

module _ {S : Type 0} (M : Meaning S) where
  -- a change keeps the counts
  pub counted_change : {v w : World}
      → (o : ℕ) → Sound v → ((x : ℕ) → x < length v.nodes → (node_at v.nodes x).unit < length v.members)
      → Counted o v.nodes v.members → Change M v w → Counted o w.nodes w.members
  counted_change o s owned c unchanged = c
  counted_change {v} o s owned c (receives u m cause found up may) =
      counted_set o (next_node v u m cause ∷ v.nodes) v.members
      u m (with_place m (length v.nodes)) found refl (λ x e. append_get m.path (length v.nodes ∷ []) 0 x e)
      (counted_node o (next_node v u m cause) v.nodes v.members m (receipt_plain M v u m cause may) refl found refl c)
  counted_change {v} o s owned c (flushes u k m found h) = counted_set o v.nodes v.members u m _ found refl (λ x e. e) c
  counted_change {v} o s owned c (dies u m found) = counted_set o v.nodes v.members u m (killed m) found refl
      (λ x e. take_get m.path m.stable 0 x (let t = (s.units u m found).begun in omega arith) e) c
  counted_change {v} o s owned c (goes_back u m found room) =
      counted_set o v.nodes v.members u m (back_at m (path_kept v m) (length v.table + 1)) found refl
      (λ x e. let t = kept_some v u m (s.units u m found) in let g = get_below (path_kept v m) 0 (omega arith) in
      let k = get_take_while _ m.path 0 g.0 g.1 in g.1 ∙ sym k.0 ∙ e) c
  counted_change {v} o s owned c (learns u m found h) = counted_set o v.nodes v.members u m _ found refl (λ x e. e) c
  counted_change {v} o s owned c (releases u m found) = counted_set o v.nodes v.members u m _ found refl (λ x e. e) c
  counted_change {v} o s owned c (joins kind room) = counted_join o kind v room c owned

-- ---- from the opening on

record Opening (home : ℕ) (w : World) : Type 0 where
  pub same : length w.nodes ≡ length w.members
  pub all_began : (x : ℕ) → x < length w.nodes → is_began (node_at w.nodes x).cause ≡ true
  pub own : (x : ℕ) → x < length w.nodes → (node_at w.nodes x).unit ≡ x
  pub seated : (x : ℕ) (m : Member)
      → x < length w.nodes → slice_get w.members x ≡ Some m → (node_at w.nodes x).seat ≡ m.seat
  pub units_are : (x : ℕ) → x < length w.nodes → (node_at w.nodes x).units ≡ home
  pub home_is : (u : ℕ) (m : Member) → slice_get w.members u ≡ Some m → m.seat.home ≡ home
  pub head : (u : ℕ) (m : Member) → slice_get w.members u ≡ Some m → slice_get m.path 0 ≡ Some u
  pub unreleased : (u : ℕ) (m : Member) → slice_get w.members u ≡ Some m → m.released ≡ []
  pub no_rows : w.table ≡ []
  pub all_up : (u : ℕ) (m : Member) → slice_get w.members u ≡ Some m → m.up ≡ true

opening_unit : (home kind : ℕ) (w : World) → Opening home w → Opening home (with_unit home w kind)
opening_unit home kind w p = record {
  same = rw (length-append w.members (new ∷ [])) (omega (arith, p.same));
  all_began = λ x h. elim (ℕ_discrete x (length w.nodes)) [
    | yes q ↦ rw (node_newest n w.nodes x q) refl
    | no q ↦ rw (node_older n w.nodes x q) (p.all_began x (omega arith))
  ];
  own = λ x h. elim (ℕ_discrete x (length w.nodes)) [
    | yes q ↦ rw (node_newest n w.nodes x q) (omega (arith, p.same))
    | no q ↦ rw (node_older n w.nodes x q) (p.own x (omega arith))
  ];
  seated = λ x m h e. elim (get_append w.members new m x e) [
    | inl f ↦ let t = slice_get_within w.members x m f in
        rw (node_older n w.nodes x (omega (arith, p.same))) (p.seated x m (omega (arith, p.same)) f)
    | inr f ↦ rw (node_newest n w.nodes x (omega (arith, p.same, f.0))) (ap (λ z. z.seat) (sym f.1))
  ];
  units_are = λ x h. elim (ℕ_discrete x (length w.nodes)) [
    | yes q ↦ rw (node_newest n w.nodes x q) refl
    | no q ↦ rw (node_older n w.nodes x q) (p.units_are x (omega arith))
  ];
  home_is = λ u m e. elim (get_append w.members new m u e) [ inl h ↦ p.home_is u m h | inr h ↦ rw h.1 refl ];
  head =
      λ u m e. elim (get_append w.members new m u e) [ inl h ↦ p.head u m h | inr h ↦ rw (h.1, h.0) (ap Some p.same) ];
  unreleased = λ u m e. elim (get_append w.members new m u e) [ inl h ↦ p.unreleased u m h | inr h ↦ rw h.1 refl ];
  no_rows = p.no_rows;
  all_up = λ u m e. elim (get_append w.members new m u e) [ inl h ↦ p.all_up u m h | inr h ↦ rw h.1 refl ];
}
  where
    seat : Seat
    seat = new_seat home w kind

    n : Node
    n = beginning seat home

    new : Member
    new = fresh seat (length w.nodes) (length w.table)

opening_units_all : {X : Type 0} (home : ℕ) (kind : X → ℕ) (names : List X) (w : World)
    → Opening home w → Opening home (fold (λ w n. with_unit home w (kind n)) w names)
opening_units_all home kind [] w p = p
opening_units_all home kind (n ∷ names) w p =
    opening_units_all home kind names (with_unit home w (kind n)) (opening_unit home (kind n) w p)

opening_count : {X : Type 0} (home : ℕ) (kind : X → ℕ) (names : List X) (w : World)
    → length (fold (λ w n. with_unit home w (kind n)) w names).members ≡ length w.members + length names
opening_count home kind [] w = omega arith
opening_count home kind (n ∷ names) w = opening_count home kind names (with_unit home w (kind n)) ∙ rw
    (length-append w.members (fresh (new_seat home w (kind n)) (length w.nodes) (length w.table) ∷ [])) (omega arith)

opening_is : (members : List Member) (home : ℕ) → 1 ≤ length members
    → ((u : ℕ) (m : Member) → slice_get members u ≡ Some m → m.seat.home ≡ home) → opening_units members ≡ home
opening_is [] home h k = absurd (omega arith)
opening_is (m ∷ members) home h k = k 0 m refl

opening_counted : (home : ℕ) (w : World)
    → 1 ≤ home → home ≤ 16 → length w.members ≡ home → Opening home w → Counted home w.nodes w.members
opening_counted home w least most count p = record {
  opening = opening_is w.members home (omega arith) p.home_is;
  not_empty = least;
  enough = omega (arith, p.same);
  within = omega arith;
  few = omega arith;
  total = units_first home w.nodes (length w.nodes) (omega (arith, p.same)) ∙ sym count;
  first = λ x h. p.all_began x (omega (arith, p.same));
  first_unit = λ x h. let e = p.own x (omega (arith, p.same)) in omega arith;
  joined = λ x h k b. absurd (omega (arith, p.same));
  first_units = λ x h. p.units_are x (omega (arith, p.same));
  joined_units = λ x h k b. absurd (omega (arith, p.same));
  others = λ x h b. let t = p.all_began x h in absurd (cc (t, b));
  present = λ x h b. let t = p.all_began x h in absurd (cc (t, b));
  homes = λ u m e le. absurd (let t = slice_get_within w.members u m e in omega arith);
  heads = λ x m h b e. let q : slice_get w.members x ≡ Some m = rw (p.own x h) at e in p.head x m q;
  seated = λ x m h e. let q : slice_get w.members x ≡ Some m = rw (p.own x h) at e in p.seated x m h q;
}

-- a world just opened
pub record Begun (w : World) : Type 0 where
  pub units : ℕ
  pub counted : Counted units w.nodes w.members
  pub all_began : (x : ℕ) → x < length w.nodes → is_began (node_at w.nodes x).cause ≡ true
  pub unreleased : (u : ℕ) (m : Member) → slice_get w.members u ≡ Some m → m.released ≡ []
  pub no_rows : w.table ≡ []
  pub all_up : (u : ℕ) (m : Member) → slice_get w.members u ≡ Some m → m.up ≡ true

module _ {S : Type 0} (M : Meaning S) where
  open_counted : (names : List (List ℕ)) (quota : Quota) (optimism : ℕ) (w : World)
      → (open_new M names quota optimism).world ≡ Some w → Begun w
  open_counted names quota optimism w e = go (can_open M names quota optimism) refl e
    where
      empty : World
      empty = record { quota = quota; optimism = optimism; members = []; nodes = []; table = [] }

      kind : List ℕ → ℕ
      kind n = kind_or_0 (M.kind n)

      last : World
      last = fold (λ w n. with_unit (length names) w (kind n)) empty names

      nothing : Opening (length names) empty
      nothing = record {
        same = refl;
        all_began = λ x h. absurd (omega arith);
        own = λ x h. absurd (omega arith);
        seated = λ x m h e. absurd (omega arith);
        units_are = λ x h. absurd (omega arith);
        home_is = λ u m f. absurd (cc f);
        head = λ u m f. absurd (cc f);
        unreleased = λ u m f. absurd (cc f);
        no_rows = refl;
        all_up = λ u m f. absurd (cc f);
      }

      go : (b : Bool) → can_open M names quota optimism ≡ b → (cond b (opened_with M names quota optimism)
          (record { reply = Refused BadOpen; world = None })).world ≡ Some w → Begun w
      go false q h = absurd (cc h)
      go true q h =
          let t = and_both _ _ (and_both _ _ q).0 in
          let least = le_true 1 (length names) t.0 in
          let most = le_true (length names) 16 t.1 in
          let count : length last.members ≡ length names =
          opening_count (length names) kind names empty ∙ (omega arith) in
          let p : Opening (length names) last = opening_units_all (length names) kind names empty nothing in
          subst Begun (same_Some _ w h) (record {
            units = length names;
            counted = opening_counted (length names) last least most count p;
            all_began = p.all_began;
            unreleased = p.unreleased;
            no_rows = p.no_rows;
            all_up = p.all_up;
          })

  -- a world just opened is one of beginnings alone
  pub first_counted : (step : TenantStep) (w : World) → (step_unopened M step).world ≡ Some w → Begun w
  first_counted (Open kinds quota optimism) w e = open_counted kinds quota optimism w e
  first_counted (Join kind) w e = absurd (cc e)
  first_counted (Post unit number text) w e = absurd (cc e)
  first_counted (Deliver l) w e = absurd (cc e)
  first_counted (Flush unit) w e = absurd (cc e)
  first_counted (Checkpoint unit) w e = absurd (cc e)
  first_counted (Kill unit) w e = absurd (cc e)
  first_counted (Restart unit) w e = absurd (cc e)
  first_counted (Notice unit) w e = absurd (cc e)
  first_counted (Release unit) w e = absurd (cc e)
  first_counted (Status unit) w e = absurd (cc e)

-- The greatest marks of a past tell which rows make it an orphan.
use Rattle.std.proofs.Common.{◌≡◌, ◌⊎◌, inl, inr, refl, sym, ◌∙◌, ap, subst, ℕ, zero, suc, ◌+◌, ◌-◌, ◌<◌, ◌≤◌, Bool}
use Rattle.std.proofs.Common.{true, false, cond, List, [], ◌∷◌, length, take, arith, map}
use Rattle.std.specs.Prelude.{Some, slice_get, ◌==◌}
use Rattle.std.proofs.lemmas.Bool.Decides.{nat_tests}
use Rattle.std.proofs.lemmas.Option.{same_Some}
use Rattle.std.specs.List.{fold, filter}
use native.Mathlib.Decide.{dec_lt, ℕ_discrete}
use Rattle.model.specs.declared.names.Row.{Row}
use Rattle.model.specs.Handler.{Meaning}
use Rattle.model.specs.Nodes.{Node, node_at, past, DependsOn, sender_of}
use Rattle.model.specs.World.{World, is_lost, is_orphan, no_mark, mark_le, mark_of, greater_mark, greatest_mark}
use Rattle.model.specs.World.{past_nodes}
use Rattle.model.specs.Steps.{next_node, beginning}
use Rattle.model.specs.declared.names.Mark.{Mark}
use Rattle.model.specs.Nodes.DependsOn.{itself}
use Rattle.theory.proofs.ListLaws.{get_take, has_at, at_has, at_any, at_map, map_at, bool_cases, has_before, eq_true}
use Rattle.theory.proofs.ListLaws.{true_eq}
use Rattle.theory.proofs.Pasts.{Placed, node_newest, node_older, parent_within, depends_le, past_depends, depends_past}
use Rattle.theory.proofs.Changes.{Change, new_seat}
use Rattle.theory.proofs.Changes.Change.{unchanged, receives, flushes, dies, goes_back, learns, releases, joins}
use Rattle.theory.proofs.Invariants.{Sound, orphan_depends}
use Rattle.theory.proofs.RowLaws.{Loses, lost_row, row_lost}
use Rattle.theory.proofs.Chain.{OnLine, LostFor, Chain, known_loss, chain_law}
use Rattle.theory.proofs.ChainKept.{line_depends}
use Rattle.theory.proofs.Chain.OnLine.{here, back}

-- ---- links

-- the node before is of the same unit, one index less, and of no later incarnation
pub record Link (n p : Node) : Type 0 where
  pub unit : n.unit ≡ p.unit
  pub index : n.index ≡ suc p.index
  pub incarnation : p.incarnation ≤ n.incarnation

-- that of every node
abbrev pub Linked : List Node → Type 0
Linked nodes = (x p : ℕ) → (node_at nodes x).before ≡ Some p → Link (node_at nodes x) (node_at nodes p)

linked_more : (n : Node) (nodes : List Node) → Placed nodes → Linked nodes → ((p : ℕ) → n.before ≡ Some p
    → p < length nodes) → ((p : ℕ) → n.before ≡ Some p → Link n (node_at nodes p)) → Linked (n ∷ nodes)
linked_more n nodes placed linked below link x p e = elim (ℕ_discrete x (length nodes)) [
  | yes q ↦
      let new = node_newest n nodes x q in
      let b : n.before ≡ Some p = rw new at e in
      let h = below p b in
      rw (new, node_older n nodes p (omega arith)) (link p b)
  | no q ↦
      let old = node_older n nodes x q in
      let b : (node_at nodes x).before ≡ Some p = rw old at e in
      let h = placed x p (has_before (node_at nodes x).before (sender_of (node_at nodes x).cause) p b) in
      let k = parent_within nodes x p (has_before (node_at nodes x).before (sender_of (node_at nodes x).cause) p b) in
      rw (old, node_older n nodes p (omega arith)) (linked x p b)
]

module _ {S : Type 0} (M : Meaning S) where
  -- a change keeps the links
  pub linked_change : {v w : World} → Sound v → Linked v.nodes → Change M v w → Linked w.nodes
  linked_change s k unchanged = k
  linked_change {v} s k (receives u m cause found up may) =
      let o = s.units u m found in
      linked_more (next_node v u m cause) v.nodes s.placed k
      (λ p e. o.made (length m.path - 1) p e)
      (λ p e. record {
        unit = sym (o.own (length m.path - 1) p e);
        index = rw (o.indexed (length m.path - 1) p e) (omega (arith, o.begun, o.logged));
        incarnation = o.reached (length m.path - 1) p e;
      })
  linked_change s k (flushes u j m found h) = k
  linked_change s k (dies u m found) = k
  linked_change s k (goes_back u m found room) = k
  linked_change s k (learns u m found h) = k
  linked_change s k (releases u m found) = k
  linked_change {v} s k (joins kind room) = linked_more (beginning (new_seat (length v.members + 1) v kind)
      (length v.members + 1)) v.nodes s.placed k (λ p e. absurd (cc e)) (λ p e. absurd (cc e))

-- along a line the unit is one, and indices and incarnations rise
pub record Rises (n y : Node) : Type 0 where
  pub unit : n.unit ≡ y.unit
  pub index : y.index ≤ n.index
  pub incarnation : y.incarnation ≤ n.incarnation

-- and so it is of any two nodes on one line
pub line_rises : {nodes : List Node} {x y : ℕ}
    → Linked nodes → OnLine nodes x y → Rises (node_at nodes x) (node_at nodes y)
line_rises k here = record { unit = refl; index = omega arith; incarnation = omega arith }
line_rises k (back y z l e) = let r = line_rises k l in let t = k y z e in record {
  unit = r.unit ∙ t.unit;
  index = omega (arith, r.index, t.index);
  incarnation = omega (arith, r.incarnation, t.incarnation);
}

-- ---- the greatest mark

-- one mark is at most another
abbrev pub MarkLe : Mark → Mark → Type 0
MarkLe a b = (a.incarnation < b.incarnation) ⊎ ((a.incarnation ≡ b.incarnation) × (a.index ≤ b.index))

le_mark : (a b : Mark) → mark_le a b ≡ true → MarkLe a b
le_mark a b e = grind (arith, nat_tests)

not_le_mark : (a b : Mark) → mark_le a b ≡ false → MarkLe b a
not_le_mark a b e = grind (arith, nat_tests)

-- a mark is at most itself
pub mark_refl : (a : Mark) → MarkLe a a
mark_refl a = inr (refl, omega arith)

-- marks at most one another follow on
pub mark_trans : (a b c : Mark) → MarkLe a b → MarkLe b c → MarkLe a c
mark_trans a b c p q = grind arith

-- the greater of two is one of them, and above both
pub greater_is : (a b : Mark) → (MarkLe a (greater_mark a b) × MarkLe b (greater_mark a b))
    × ((greater_mark a b ≡ a) ⊎ (greater_mark a b ≡ b))
greater_is a b = elim (bool_cases (mark_le a b)) [
  | inl e ↦ rw e ((le_mark a b e, mark_refl b), inr refl)
  | inr e ↦ rw e ((mark_refl a, not_le_mark a b e), inl refl)
]

abbrev of_unit : ℕ → List Node → List Node
of_unit u nodes = filter (λ n. n.unit == u) nodes

abbrev greatest_from : Mark → List Node → Mark
greatest_from a nodes = fold greater_mark a (map mark_of nodes)

from_above : (a : Mark) (nodes : List Node) → MarkLe a (greatest_from a nodes)
from_above a [] = mark_refl a
from_above a (n ∷ nodes) = mark_trans
    a (greater_mark a (mark_of n)) _ (greater_is a (mark_of n)).0.0 (from_above (greater_mark a (mark_of n)) nodes)

-- one more node is counted, or is of another unit
filter_step : (a : Mark) (n : Node) (nodes : List Node) (u : ℕ) → greatest_from
    a (of_unit u (n ∷ nodes)) ≡ greatest_from (cond (n.unit == u) (greater_mark a (mark_of n)) a) (of_unit u nodes)
filter_step a n nodes u = go (n.unit == u)
  where
    go : (b : Bool) → greatest_from a (cond b (n ∷ of_unit u nodes) (of_unit u nodes))
        ≡ greatest_from (cond b (greater_mark a (mark_of n)) a) (of_unit u nodes)
    go true = refl
    go false = refl

-- the greatest mark is above each of the unit's
pub below_greatest : (nodes : List Node) (a : Mark) (u i : ℕ) (n : Node)
    → slice_get nodes i ≡ Some n → n.unit ≡ u → MarkLe (mark_of n) (greatest_from a (of_unit u nodes))
below_greatest [] a u i n e own = cc
below_greatest (q ∷ nodes) a u zero n e own =
    let is : q ≡ n = same_Some q n e in
    rw (filter_step a q nodes u, is, true_eq n.unit u own) (mark_trans (mark_of n) (greater_mark a (mark_of n))
    _ (greater_is a (mark_of n)).0.1 (from_above (greater_mark a (mark_of n)) (of_unit u nodes)))
below_greatest (q ∷ nodes) a u (suc i) n e own =
    rw (filter_step a q nodes u) (below_greatest nodes (cond (q.unit == u) (greater_mark a (mark_of q)) a) u i n e own)

-- and it is the mark of one of them, or the first
pub record Attained (nodes : List Node) (u : ℕ) (g : Mark) : Type 0 where
  pub place : ℕ
  pub node : Node
  pub found : slice_get nodes place ≡ Some node
  pub own : node.unit ≡ u
  pub is : mark_of node ≡ g

later : {nodes : List Node} {u : ℕ} {g : Mark} (n : Node) → Attained nodes u g → Attained (n ∷ nodes) u g
later n t = record { place = suc t.place; node = t.node; found = t.found; own = t.own; is = t.is }

-- the greatest mark is the first, or that of a node
pub greatest_attained : (nodes : List Node) (a : Mark) (u : ℕ)
    → (greatest_from a (of_unit u nodes) ≡ a) ⊎ Attained nodes u (greatest_from a (of_unit u nodes))
greatest_attained [] a u = inl refl
greatest_attained (q ∷ nodes) a u = elim (bool_cases (q.unit == u)) [
  | inr e ↦
      rw (filter_step a q nodes u, e) (elim (greatest_attained nodes a u) [ inl h ↦ inl h | inr t ↦ inr (later q t) ])
  | inl e ↦ rw (filter_step a q nodes u, e) (elim (greatest_attained nodes (greater_mark a (mark_of q)) u) [
    | inr t ↦ inr (later q t)
    | inl h ↦ elim (greater_is a (mark_of q)).1 [
      | inl k ↦ inl (h ∙ k)
      | inr k ↦ inr (record { place = 0; node = q; found = refl; own = eq_true q.unit u e; is = sym (h ∙ k) })
    ]
  ])
]

-- ---- the vector tells what the past does

-- these rows lose what the unit did at this mark
abbrev pub LosesMark : List Row → ℕ → Mark → Type 0
LosesMark rows u g = (i : ℕ)
    × ((r : Row) × (slice_get rows i ≡ Some r) × (r.unit ≡ u) × (g.incarnation < r.incarnation) × (r.start ≤ g.index))

-- a node on whose line there is one that is lost is lost by the same row
line_lost : (w : World) → Chain w → Linked w.nodes → (k g y : ℕ)
    → g < length w.nodes → y < length w.nodes → OnLine w.nodes g y → Loses (take k w.table) (node_at w.nodes y)
    → LosesMark (take k w.table) (node_at w.nodes y).unit (mark_of (node_at w.nodes g))
line_lost w c linked k g y gin yin l h =
    let r = line_rises linked l in
    elim (dec_lt (node_at w.nodes g).incarnation h.row.incarnation) [
      | yes q ↦ (h.at_place, (h.row, h.found, h.of_unit, q, omega (arith, h.before, r.index)))
      | no q ↦
          let p = c.pasts g gin in
          let all : LostFor w.table (node_at w.nodes y) (node_at w.nodes g) = record {
            by = record {
              at_place = h.at_place;
              row = h.row;
              found = (get_take w.table k h.at_place h.row h.found).0;
              of_unit = h.of_unit;
              later = h.later;
              before = h.before;
            };
            within = omega arith;
          } in
          absurd
          ((p.all_safe y (line_depends l)).1 (known_loss w c p.rows y g (sym r.unit) (p.all_safe g itself).0 all))
    ]

-- An orphan shows in the greatest marks of its past.
pub orphan_shows : (w : World)
    → Chain w → Linked w.nodes → (k z : ℕ) → z < length w.nodes → is_orphan w.nodes (take k w.table) z ≡ true
    → (y : ℕ) × DependsOn w.nodes z y × LosesMark
    (take k w.table) (node_at w.nodes y).unit (greatest_mark (past_nodes w.nodes z) (node_at w.nodes y).unit)
orphan_shows w c linked k z zin e =
    let o = orphan_depends w.nodes (take k w.table) z e in
    let y = o.0 in
    let n = node_at w.nodes y in
    let lost = lost_row (take k w.table) n o.2 in
    let le = depends_le c.sound.placed o.1 in
    let at = has_at (past w.nodes z) y (depends_past w.nodes c.sound.placed z y o.1 (omega arith)) in
    let found = at_map (node_at w.nodes) (past w.nodes z) at.0 y at.1 in
    let below = below_greatest (past_nodes w.nodes z) no_mark n.unit at.0 n found refl in (
      y,
      o.1,
      elim (greatest_attained (past_nodes w.nodes z) no_mark n.unit) [
        | inl is ↦ let b = rw is at below in (
          lost.at_place,
          (
            lost.row,
            lost.found,
            lost.of_unit,
            rw is (omega (arith, lost.later, b)),
            rw is (omega (arith, lost.before, b)),
          ),
        )
        | inr t ↦
            let r = map_at (node_at w.nodes) (past w.nodes z) t.place t.node t.found in
            let g = r.0 in
            let gd = past_depends w.nodes z g (at_has (past w.nodes z) t.place g r.1) in
            let gle = depends_le c.sound.placed gd in
            let is : mark_of (node_at w.nodes g) ≡ greatest_mark (past_nodes w.nodes z) n.unit =
            ap mark_of (sym r.2) ∙ t.is in
            let own : (node_at w.nodes g).unit ≡ n.unit = ap (λ q. q.unit) (sym r.2) ∙ t.own in
            let under : MarkLe (mark_of n) (mark_of (node_at w.nodes g)) =
            subst (λ m. MarkLe (mark_of n) m) (sym is) below in
            subst (λ m. LosesMark (take k w.table) n.unit m) is (elim (chain_law w c z g y zin gd o.1 own) [
              | inl l ↦ line_lost w c linked k g y (omega arith) (omega arith) l lost
              | inr l ↦ let q = line_rises linked l in (
                lost.at_place,
                (
                  lost.row,
                  lost.found,
                  lost.of_unit,
                  omega (arith, lost.later, q.incarnation, under),
                  omega (arith, lost.before, q.index, q.incarnation, under),
                ),
              )
            ])
      ],
    )

-- And only an orphan does.
pub shown_orphan : (w : World)
    → Chain w → (k z u : ℕ) → z < length w.nodes → LosesMark (take k w.table) u (greatest_mark (past_nodes w.nodes z) u)
    → is_orphan w.nodes (take k w.table) z ≡ true
shown_orphan w c k z u zin l = elim (greatest_attained (past_nodes w.nodes z) no_mark u) [
  | inl is ↦
      let start = c.sound.starts l.0 l.1.0 (get_take w.table k l.0 l.1.0 l.1.1).0 in
      let before : l.1.0.start ≤ 0 = rw is at l.1.4 in absurd (omega arith)
  | inr t ↦
      let r = map_at (node_at w.nodes) (past w.nodes z) t.place t.node t.found in
      let is : mark_of (node_at w.nodes r.0) ≡ greatest_mark (past_nodes w.nodes z) u = ap mark_of (sym r.2) ∙ t.is in
      let own : (node_at w.nodes r.0).unit ≡ u = ap (λ q. q.unit) (sym r.2) ∙ t.own in
      at_any (λ y. is_lost (take k w.table) (node_at w.nodes y)) (past w.nodes z) t.place r.0 r.1
      (row_lost (take k w.table) (node_at w.nodes r.0) (record {
        at_place = l.0;
        row = l.1.0;
        found = l.1.1;
        of_unit = l.1.2 ∙ sym own;
        later = rw (ap (λ m. m.incarnation) is) l.1.3;
        before = rw (ap (λ m. m.index) is) l.1.4;
      }))
]

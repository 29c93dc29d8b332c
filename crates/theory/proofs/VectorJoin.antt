-- How the greatest marks of a node's past are made from those of its parents.
use Rattle.std.proofs.Common.{◌≡◌, ◌≢◌, inl, inr, refl, sym, ◌∙◌, ap, subst, ℕ, ◌<◌, true, List, length, arith, ne_eqb}
use Rattle.std.specs.Prelude.{Option, Some, None}
use native.Mathlib.Decide.{ℕ_discrete}
use Rattle.model.specs.declared.names.Mark.{Mark}
use Rattle.model.specs.Handler.{Meaning}
use Rattle.model.specs.Lists.{has}
use Rattle.model.specs.Nodes.{Node, Cause, began, outside, letter, node_at, past, parents, place_before, sender_of}
use Rattle.model.specs.Nodes.{DependsOn}
use Rattle.model.specs.Nodes.DependsOn.{itself}
use Rattle.model.specs.World.{World, mark_of, greater_mark, greatest_mark, past_nodes, no_mark}
use Rattle.theory.specs.Laws.{entry_before, entry_of_cause, VectorsJoin}
use Rattle.theory.proofs.ListLaws.{has_at, at_has, at_map, map_at, eq_same, has_append, append_has}
use Rattle.theory.proofs.Pasts.{Placed, only, first_step, from_parent, depends_le, depends_past, past_depends}
use Rattle.theory.proofs.Chain.{Chain, chain_law}
use Rattle.theory.proofs.ChainKept.{line_depends}
use Rattle.theory.proofs.Vectors.{Linked, MarkLe, below_greatest, greatest_attained, mark_trans, mark_refl, greater_is}
use Rattle.theory.proofs.Vectors.{line_rises, Rises}
use Rattle.theory.proofs.Certificate.{reachable_invariant}

mark_same : (a b : Mark) → MarkLe a b → MarkLe b a → a ≡ b
mark_same a b h k =
    let e : a.incarnation ≡ b.incarnation = omega (arith, h, k) in
    let f : a.index ≡ b.index = omega (arith, h, k) in
    λ i. record { incarnation = e i; index = f i }

no_mark_least : (g : Mark) → MarkLe no_mark g
no_mark_least g = elim (ℕ_discrete 0 g.incarnation) [ yes e ↦ inr (e, omega arith) | no h ↦ inl (omega arith) ]

-- what is above every mark of the unit in a past is above the greatest
greatest_below : (nodes : List Node) (placed : Placed nodes) (x u : ℕ) (g : Mark)
    → ((y : ℕ) → DependsOn nodes x y → (node_at nodes y).unit ≡ u → MarkLe (mark_of (node_at nodes y)) g)
    → MarkLe (greatest_mark (past_nodes nodes x) u) g
greatest_below nodes placed x u g h = elim (greatest_attained (past_nodes nodes x) no_mark u) [
  | inl is ↦ rw is (no_mark_least g)
  | inr t ↦
      let r = map_at (node_at nodes) (past nodes x) t.place t.node t.found in
      let d = past_depends nodes x r.0 (at_has (past nodes x) t.place r.0 r.1) in
      subst (λ m. MarkLe m g) (ap mark_of (sym r.2) ∙ t.is) (h r.0 d (ap (λ z. z.unit) (sym r.2) ∙ t.own))
]

-- and the greatest is above each
pub greatest_above : (nodes : List Node) (placed : Placed nodes) (x u y : ℕ) → x < length nodes → DependsOn nodes x y
    → (node_at nodes y).unit ≡ u → MarkLe (mark_of (node_at nodes y)) (greatest_mark (past_nodes nodes x) u)
greatest_above nodes placed x u y h d own =
    let le = depends_le placed d in
    let at = has_at (past nodes x) y (depends_past nodes placed x y d (omega arith)) in
    below_greatest (past_nodes nodes x)
    no_mark u at.0 (node_at nodes y) (at_map (node_at nodes) (past nodes x) at.0 y at.1) own

-- one parent's entry is below
parent_below : (nodes : List Node) (placed : Placed nodes) (x u p : ℕ)
    → x < length nodes → has (parents (node_at nodes x)) p ≡ true
    → MarkLe (greatest_mark (past_nodes nodes p) u) (greatest_mark (past_nodes nodes x) u)
parent_below nodes placed x u p h is =
    greatest_below nodes placed p u _ (λ y d own. greatest_above nodes placed x u y h (from_parent is d) own)

module _ (nodes : List Node) (placed : Placed nodes) (x u : ℕ) (h : x < length nodes) where
  before_le : (b : Option ℕ) → ((p : ℕ) → has (place_before b) p ≡ true → has (parents (node_at nodes x)) p ≡ true)
      → MarkLe (entry_before nodes u b) (greatest_mark (past_nodes nodes x) u)
  before_le None f = no_mark_least (greatest_mark (past_nodes nodes x) u)
  before_le (Some p) f = parent_below nodes placed x u p h (f p (rw (eq_same p) refl))

  cause_le : (c : Cause) → ((p : ℕ) → has (sender_of c) p ≡ true → has (parents (node_at nodes x)) p ≡ true)
      → MarkLe (entry_of_cause nodes u c) (greatest_mark (past_nodes nodes x) u)
  cause_le began f = no_mark_least (greatest_mark (past_nodes nodes x) u)
  cause_le (outside number text) f = no_mark_least (greatest_mark (past_nodes nodes x) u)
  cause_le (letter l s) f = parent_below nodes placed x u s h (f s (rw (eq_same s) refl))

  before_ge : (b : Option ℕ) (p y : ℕ) → has (place_before b) p ≡ true → p < length nodes
      → DependsOn nodes p y → (node_at nodes y).unit ≡ u → MarkLe (mark_of (node_at nodes y)) (entry_before nodes u b)
  before_ge None p y e k d own = absurd (cc e)
  before_ge (Some q) p y e k d own = let is : q ≡ p = only p q e in rw is (greatest_above nodes placed p u y k d own)

  cause_ge : (c : Cause) (p y : ℕ) → has (sender_of c) p ≡ true → p < length nodes
      → DependsOn nodes p y → (node_at nodes y).unit ≡ u → MarkLe (mark_of (node_at nodes y)) (entry_of_cause nodes u c)
  cause_ge began p y e k d own = absurd (cc e)
  cause_ge (outside number text) p y e k d own = absurd (cc e)
  cause_ge (letter l s) p y e k d own = let is : s ≡ p = only p s e in rw is (greatest_above nodes placed p u y k d own)

  joined : (node_at nodes x).unit ≢ u → greatest_mark (past_nodes nodes x)
      u ≡ greater_mark (entry_before nodes u (node_at nodes x).before) (entry_of_cause nodes u (node_at nodes x).cause)
  joined other =
      let n = node_at nodes x in
      let a = entry_before nodes u n.before in
      let b = entry_of_cause nodes u n.cause in
      let g = greater_is a b in
      mark_same _ _
      (greatest_below nodes placed x u (greater_mark a b) (λ y d own. elim (first_step d) [
        | inl e ↦ absurd (other (ap (λ z. (node_at nodes z).unit) e ∙ own))
        | inr q ↦
            let below = placed x q.0 q.1 in
            elim (has_append (place_before n.before) (sender_of n.cause) q.0 q.1) [
              | inl k ↦ mark_trans (mark_of (node_at nodes y))
                  a (greater_mark a b) (before_ge n.before q.0 y k (omega arith) q.2 own) g.0.0
              | inr k ↦ mark_trans (mark_of (node_at nodes y))
                  b (greater_mark a b) (cause_ge n.cause q.0 y k (omega arith) q.2 own) g.0.1
            ]
      ]))
      (elim g.1 [
        | inl e ↦ rw e (before_le n.before (λ p k. append_has (place_before n.before) (sender_of n.cause) p (inl k)))
        | inr e ↦ rw e (cause_le n.cause (λ p k. append_has (place_before n.before) (sender_of n.cause) p (inr k)))
      ])

own_greatest : (w : World) → Chain w → Linked w.nodes → (x : ℕ)
    → x < length w.nodes → greatest_mark (past_nodes w.nodes x) (node_at w.nodes x).unit ≡ mark_of (node_at w.nodes x)
own_greatest w c linked x h =
    let placed = c.sound.placed in
    mark_same _ _
    (greatest_below w.nodes placed x (node_at w.nodes x).unit
    (mark_of (node_at w.nodes x)) (λ y d own. elim (chain_law w c x x y h itself d (sym own)) [
      | inl l ↦ below (node_at w.nodes y) (node_at w.nodes x) (line_rises linked l)
      | inr l ↦
          let a = depends_le placed d in
          let b = depends_le placed (line_depends l) in
          let e : y ≡ x = omega arith in rw e (mark_refl (mark_of (node_at w.nodes x)))
    ]))
    (greatest_above w.nodes placed x (node_at w.nodes x).unit x h itself refl)
  where
    below : (y x : Node) → Rises x y → MarkLe (mark_of y) (mark_of x)
    below y x r = elim (ℕ_discrete y.incarnation x.incarnation) [
      | yes e ↦ inr (e, r.index)
      | no k ↦ inl (let t = r.incarnation in omega arith)
    ]

module _ {S : Type 0} (M : Meaning S) where
  -- a node's vector is the join of its parents', with its own mark set
  pub vectors_join : VectorsJoin M
  vectors_join w r x u h =
      let g = reachable_invariant M r in
      elim (ℕ_discrete (node_at w.nodes x).unit u) [
        | yes e ↦ rw (← e, eq_same (node_at w.nodes x).unit) (own_greatest w g.chain g.linked x h)
        | no k ↦ rw (ne_eqb (node_at w.nodes x).unit u k) (joined w.nodes g.chain.sound.placed x u h k)
      ]

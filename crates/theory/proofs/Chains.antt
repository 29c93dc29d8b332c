-- The chain law, forks, and that firm nodes and paths stay, of every world that a tenant can come to.
use Rattle.std.proofs.Common.{◌≡◌, ◌⊎◌, inl, inr, refl, ◌∙◌, ap, ℕ, zero, suc, ◌<◌, true, List, length, take, arith}
use Rattle.std.specs.Prelude.{Some, ◌==◌}
use Rattle.model.specs.Handler.{Meaning}
use Rattle.model.specs.Lists.{has}
use Rattle.model.specs.Nodes.{Node, node_at, line}
use Rattle.model.specs.World.{World}
use Rattle.theory.specs.Laws.{FirmStays, PathsKept, OneLine, ChainLaw, ForksAreLost}
use Rattle.theory.proofs.ListLaws.{has_at, eq_same, or_left, or_right}
use Rattle.theory.proofs.Pasts.{Placed, past_depends, depends_le}
use Rattle.theory.proofs.Changes.{step_changes}
use Rattle.theory.proofs.Firm.{firm_change}
use Rattle.theory.proofs.RowLaws.{row_lost}
use Rattle.theory.proofs.Chain.{Chain, OnLine, chain_law, forked_lost}
use Rattle.theory.proofs.Chain.OnLine.{here, back}
use Rattle.theory.proofs.LettersExact.{line_at, before_below}
use Rattle.theory.proofs.Certificate.{reachable_invariant}

on_line_first : {nodes : List Node} {x z : ℕ}
    → OnLine nodes x z → (x ≡ z) ⊎ ((p : ℕ) × ((node_at nodes x).before ≡ Some p) × OnLine nodes p z)
on_line_first here = inl refl
on_line_first {nodes} {x} (back y z l e) = elim (on_line_first l) [
  | inl q ↦ inr (z, ap (λ t. (node_at nodes t).before) q ∙ e, here)
  | inr r ↦ inr (r.0, r.1, back y z r.2 e)
]

line_has : (nodes : List Node)
    → Placed nodes → (n x z : ℕ) → x < n → x < length nodes → OnLine nodes x z → has (line nodes (Some x)) z ≡ true
line_has nodes placed zero x z h within l = absurd (omega arith)
line_has nodes placed (suc n) x z h within l = rw (line_at nodes placed x within) (elim (on_line_first l) [
  | inl q ↦ or_left (x == z) (has (line nodes (node_at nodes x).before) z) (rw q (eq_same z))
  | inr r ↦ or_right (x == z) (has (line nodes (node_at nodes x).before) z)
      (let t = before_below nodes placed x r.0 r.1 in
      rw r.1 (line_has nodes placed n r.0 z (omega arith) (omega arith) r.2))
])

module _ {S : Type 0} (M : Meaning S) where
  -- a firm node stays firm
  pub firm_stays : FirmStays M
  firm_stays v w e r h x within firm =
      firm_change M (reachable_invariant M r).chain.sound (step_changes M v w e.step e.said h) x within firm

  -- no node on a path is lost by the table
  pub paths_kept : PathsKept M
  paths_kept w r u m found x h = let t = has_at m.path x h in
      ((reachable_invariant M r).chain.sound.units u m found).kept t.0 x t.1

  one_line : (w : World) → Chain w → (x y : ℕ)
      → x < length w.nodes → y < length w.nodes → OnLine w.nodes x y ⊎ OnLine w.nodes y x → OneLine w.nodes x y
  one_line w c x y xin yin (inl l) = inl (line_has w.nodes c.sound.placed (suc x) x y (omega arith) xin l)
  one_line w c x y xin yin (inr l) = inr (line_has w.nodes c.sound.placed (suc y) y x (omega arith) yin l)

  -- any two nodes of one unit in one past are on one line
  pub chains : ChainLaw M
  chains w r z x y zin hx hy same =
      let c = (reachable_invariant M r).chain in
      let dx = past_depends w.nodes z x hx in
      let dy = past_depends w.nodes z y hy in
      let lx = depends_le c.sound.placed dx in
      let ly = depends_le c.sound.placed dy in
      one_line w c x y (omega arith) (omega arith) (chain_law w c z x y zin dx dy same)

  -- of two nodes that are not, the one of the lesser incarnation is lost by every front of the table by which the other
  -- is not blind
  pub forks_are_lost : ForksAreLost M
  forks_are_lost w r x y xin yin same apart le k seen =
      let c = (reachable_invariant M r).chain in
      row_lost (take k w.table) (node_at w.nodes x) (forked_lost w c x y xin yin same
      le (λ l. apart (one_line w c x y xin yin (inl l))) (λ l. apart (one_line w c x y xin yin (inr l))) k seen)

-- The greatest marks of a past tell whether it is blind or an orphan.
use Rattle.std.proofs.Common.{◌≡◌, ◌⊎◌, inl, inr, refl, sym, ◌∙◌, ap, ℕ, zero, suc, ◌+◌, ◌<◌, ◌≤◌, Bool, true, false}
use Rattle.std.proofs.Common.{not, ◌&&◌, List, length, take, arith, map}
use Rattle.std.specs.Prelude.{Some, slice_get, ◌==◌, nat_lt, nat_le}
use Rattle.std.specs.List.{list_any}
use native.Mathlib.Decide.{dec_lt, ℕ_discrete}
use Rattle.model.specs.declared.names.Row.{Row}
use Rattle.model.specs.declared.names.Mark.{Mark}
use Rattle.model.specs.Handler.{Meaning}
use Rattle.model.specs.Lists.{numbers_from}
use Rattle.model.specs.Nodes.{Node, node_at, past, DependsOn}
use Rattle.model.specs.World.{World, is_told, is_blind, mark_of, mark_told, mark_lost, greatest_mark, past_nodes}
use Rattle.model.specs.World.{no_mark}
use Rattle.theory.specs.Laws.{any_mark, VectorsTell}
use Rattle.theory.proofs.ListLaws.{bool_cases, or_cases, or_left, or_right, at_has, at_any, any_at, at_map, map_at}
use Rattle.theory.proofs.ListLaws.{eq_true, true_eq, true_lt, true_le, lt_true, le_true, and_both, both_and, get_take}
use Rattle.theory.proofs.ListLaws.{take_get, not_true}
use Rattle.theory.proofs.Pasts.{depends_le, past_depends}
use Rattle.theory.proofs.RowLaws.{Told}
use Rattle.theory.proofs.Chain.{Chain}
use Rattle.theory.proofs.Vectors.{MarkLe, below_greatest, greatest_attained, LosesMark, orphan_shows, shown_orphan}
use Rattle.theory.proofs.CertificateRun.{past_unit}
use Rattle.theory.proofs.Certificate.{reachable_invariant}

-- ---- marks and tests

-- A node whose incarnation is the first or has a row passes the test of being told.
pub row_told : (rows : List Row) (n : Node) → Told rows n → is_told rows n ≡ true
row_told rows n (inl e) = or_left (n.incarnation == 0)
    (list_any (λ r. (r.unit == n.unit) && (r.incarnation == n.incarnation)) rows) (true_eq n.incarnation 0 e)
row_told rows n (inr t) =
    or_right (n.incarnation == 0) (list_any (λ r. (r.unit == n.unit) && (r.incarnation == n.incarnation)) rows)
    (at_any (λ r. (r.unit == n.unit) && (r.incarnation == n.incarnation))
    rows t.at_place t.row t.found (both_and _ _ (true_eq _ _ t.of_unit) (true_eq _ _ t.same)))

told_cases : (rows : List Row) (u : ℕ) (g : Mark) → mark_told rows u g ≡ true
    → (g.incarnation ≡ 0)
    ⊎ ((i : ℕ) × ((r : Row) × (slice_get rows i ≡ Some r) × (r.unit ≡ u) × (r.incarnation ≡ g.incarnation)))
told_cases rows u g e = elim (or_cases (g.incarnation == 0) _ e) [
  | inl h ↦ inl (eq_true g.incarnation 0 h)
  | inr h ↦ let a = any_at (λ r. (r.unit == u) && (r.incarnation == g.incarnation)) rows h in
      let b = and_both _ _ a.1.2 in
      inr (a.0, (a.1.0, a.1.1, eq_true _ _ b.0, eq_true _ _ b.1))
]

-- a lost mark has a row that loses it
pub lost_mark : (rows : List Row) (u : ℕ) (g : Mark) → mark_lost rows u g ≡ true → LosesMark rows u g
lost_mark rows u g e =
    let a = any_at (λ r. (r.unit == u) && (nat_lt g.incarnation r.incarnation && nat_le r.start g.index)) rows e in
    let b = and_both _ _ a.1.2 in let c = and_both _ _ b.1 in
    (a.0, (a.1.0, a.1.1, eq_true _ _ b.0, lt_true _ _ c.0, le_true _ _ c.1))

-- a mark with such a row is lost
pub mark_is_lost : (rows : List Row) (u : ℕ) (g : Mark) → LosesMark rows u g → mark_lost rows u g ≡ true
mark_is_lost rows u g l =
    at_any (λ r. (r.unit == u) && (nat_lt g.incarnation r.incarnation && nat_le r.start g.index)) rows l.0 l.1.0 l.1.1
    (both_and _ _ (true_eq _ _ l.1.2) (both_and _ _ (true_lt _ _ l.1.3) (true_le _ _ l.1.4)))

-- where one of the units' marks passes, some mark does
pub any_from : (p : ℕ → Mark → Bool) (f : ℕ → Mark) (n u v : ℕ)
    → u ≤ v → v < u + n → p v (f v) ≡ true → any_mark p u (map f (numbers_from u n)) ≡ true
any_from p f zero u v h k e = absurd (omega arith)
any_from p f (suc n) u v h k e = elim (ℕ_discrete v u) [
  | yes q ↦ or_left (p u (f u)) _ (rw (← q) e)
  | no q ↦ or_right (p u (f u)) _ (any_from p f n (suc u) v (omega arith) (omega arith) e)
]

-- and the other way round
from_any : (p : ℕ → Mark → Bool) (f : ℕ → Mark) (n u : ℕ)
    → any_mark p u (map f (numbers_from u n)) ≡ true → (v : ℕ) × (p v (f v) ≡ true)
from_any p f zero u e = absurd (cc e)
from_any p f (suc n) u e = elim (or_cases (p u (f u)) _ e) [ inl h ↦ (u, h) | inr h ↦ from_any p f n (suc u) h ]

-- two tests that pass alike are the same
pub same_bools : (a b : Bool) → (a ≡ true → b ≡ true) → (b ≡ true → a ≡ true) → a ≡ b
same_bools true b f g = sym (f refl)
same_bools false true f g = g refl
same_bools false false f g = refl

-- ---- blind

-- Of a unit that the rows tell of at its greatest mark, they tell of all that is below.
told_below : (w : World) → Chain w → (k y : ℕ) (g : Mark) → y < length w.nodes → MarkLe (mark_of (node_at w.nodes y)) g
    → mark_told (take k w.table) (node_at w.nodes y).unit g ≡ true → is_told (take k w.table) (node_at w.nodes y) ≡ true
told_below w c k y g yin le e =
    row_told (take k w.table) (node_at w.nodes y) (elim (told_cases (take k w.table) (node_at w.nodes y).unit g e) [
      | inl z ↦ inl (omega (arith, le))
      | inr r ↦ elim (c.told y yin) [
        | inl z ↦ inl z
        | inr t ↦
            let f = get_take w.table k r.0 r.1.0 r.1.1 in
            let early : t.at_place ≤ r.0 = elim (dec_lt r.0 t.at_place) [
              | no q ↦ omega arith
              | yes q ↦ absurd (let o = c.ordered r.0 t.at_place r.1.0 t.row q f.0 t.found (r.1.2 ∙ sym t.of_unit) in
                  omega (arith, o, r.1.3, t.same, le))
            ] in
            inr (record {
              at_place = t.at_place;
              row = t.row;
              found = take_get
                  w.table k t.at_place t.row (omega (arith, f.1, early)) t.found;
              of_unit = t.of_unit;
              same = t.same;
            })
      ]
    ])

blind_shows : (w : World) → Chain w → (k z : ℕ) → z < length w.nodes → is_blind w.nodes (take k w.table) z ≡ true
    → (y : ℕ) × DependsOn w.nodes z y × (mark_told (take k w.table)
    (node_at w.nodes y).unit (greatest_mark (past_nodes w.nodes z) (node_at w.nodes y).unit) ≡ false)
blind_shows w c k z zin e =
    let a = any_at (λ y. not (is_told (take k w.table) (node_at w.nodes y))) (past w.nodes z) e in
    let y = a.1.0 in
    let d = past_depends w.nodes z y (at_has (past w.nodes z) a.0 y a.1.1) in
    let le = depends_le c.sound.placed d in
    let u = (node_at w.nodes y).unit in
    let under = below_greatest (past_nodes w.nodes z)
    no_mark u a.0 (node_at w.nodes y) (at_map (node_at w.nodes) (past w.nodes z) a.0 y a.1.1) refl in (
      y,
      d,
      elim (bool_cases (mark_told (take k w.table) u (greatest_mark (past_nodes w.nodes z) u))) [
        | inr q ↦ q
        | inl q ↦ absurd (let t = told_below w c k y (greatest_mark (past_nodes w.nodes z) u) (omega arith) under q in
            let n = not_true _ a.1.2 in cc (t, n))
      ],
    )

shown_blind : (w : World) → Chain w
    → (k z u : ℕ) → mark_told (take k w.table) u (greatest_mark (past_nodes w.nodes z) u) ≡ false
    → is_blind w.nodes (take k w.table) z ≡ true
shown_blind w c k z u e = elim (greatest_attained (past_nodes w.nodes z) no_mark u) [
  | inl is ↦ absurd (let t = rw is at e in cc t)
  | inr t ↦
      let r = map_at (node_at w.nodes) (past w.nodes z) t.place t.node t.found in
      let same : mark_told (take k w.table)
      u (greatest_mark (past_nodes w.nodes z) u) ≡ is_told (take k w.table) t.node =
      ap (mark_told (take k w.table) u) (sym t.is)
      ∙ ap (λ v. mark_told (take k w.table) v (mark_of t.node)) (sym t.own) in
      let no : is_told (take k w.table) t.node ≡ false = sym same ∙ e in
      at_any (λ y. not (is_told (take k w.table) (node_at w.nodes y)))
      (past w.nodes z) t.place r.0 r.1 (ap not (ap (is_told (take k w.table)) (sym r.2) ∙ no))
]

-- ---- the law

module _ {S : Type 0} (M : Meaning S) where
  -- the greatest marks of a node's past tell whether it is blind or an orphan
  pub vectors_tell : VectorsTell M
  vectors_tell w r k z zin =
      let g = reachable_invariant M r in
      let c = g.chain in
      let rows = take k w.table in
      let marks = greatest_mark (past_nodes w.nodes z) in
      let n = (node_at w.nodes z).units in (
        same_bools _ _
            (λ e. let b = blind_shows w c k z zin e in
            any_from (λ u m. not (mark_told rows u m)) marks n 0 (node_at w.nodes b.0).unit (omega arith) (let t =
            past_unit M w c g.opening g.counted g.numbered z b.0 zin b.1 in omega arith) (ap not b.2))
            (λ e. let v = from_any (λ u m. not (mark_told rows u m)) marks n 0 e in
            shown_blind w c k z v.0 (not_true _ v.1)),
        same_bools _ _
            (λ e. let o = orphan_shows w c g.linked k z zin e in
            any_from (mark_lost rows) marks n 0 (node_at w.nodes o.0).unit (omega arith) (let t =
            past_unit M w c g.opening g.counted g.numbered z o.0 zin o.1 in
            omega arith) (mark_is_lost rows (node_at w.nodes o.0).unit (marks (node_at w.nodes o.0).unit) o.2))
            (λ e. let v = from_any (mark_lost rows) marks n 0 e in
            shown_orphan w c k z v.0 zin (lost_mark rows v.0 (marks v.0) v.1)),
      )

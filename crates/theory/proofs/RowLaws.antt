-- Laws of the table of rows.
use Rattle.std.proofs.Common.{◌≡◌, ◌⊎◌, inl, inr, refl, ℕ, zero, suc, ◌<◌, ◌≤◌, Bool, true, false, cond, max, ◌&&◌}
use Rattle.std.proofs.Common.{List, [], ◌∷◌, ◌++◌, take, arith}
use Rattle.std.proofs.lemmas.Option.{same_Some}
use Rattle.std.specs.Prelude.{Some, slice_get, ◌==◌}
use native.Mathlib.Decide.{dec_lt}
use Rattle.model.specs.declared.names.Row.{Row}
use Rattle.model.specs.Nodes.{Node}
use Rattle.model.specs.World.{is_lost, is_told, incarnation_of, is_lost_by}
use Rattle.theory.proofs.ListLaws.{get_take, any_at, at_any, and_both, or_cases, append_get, bool_cases, eq_true}
use Rattle.theory.proofs.ListLaws.{true_eq, lt_true, true_lt, le_true, true_le, both_and, eq_same}

-- the row that loses a node
pub record Loses (rows : List Row) (n : Node) : Type 0 where
  pub at_place : ℕ
  pub row : Row
  pub found : slice_get rows at_place ≡ Some row
  pub of_unit : row.unit ≡ n.unit
  pub later : n.incarnation < row.incarnation
  pub before : row.start ≤ n.index

-- a lost node has a row that loses it
pub lost_row : (rows : List Row) (n : Node) → is_lost rows n ≡ true → Loses rows n
lost_row rows n e =
    let a = any_at (is_lost_by n) rows e in
    let b = and_both _ _ a.1.2 in
    let c = and_both _ _ b.1 in
    record {
      at_place = a.0;
      row = a.1.0;
      found = a.1.1;
      of_unit = eq_true _ _ b.0;
      later = lt_true _ _ c.0;
      before = le_true _ _ c.1;
    }

-- a node with such a row is lost
pub row_lost : (rows : List Row) (n : Node) → Loses rows n → is_lost rows n ≡ true
row_lost rows n l = at_any (is_lost_by n) rows l.at_place l.row l.found
    (both_and _ _ (true_eq _ _ l.of_unit) (both_and _ _ (true_lt _ _ l.later) (true_le _ _ l.before)))

-- the row that begins a node's incarnation
pub record ToldBy (rows : List Row) (n : Node) : Type 0 where
  pub at_place : ℕ
  pub row : Row
  pub found : slice_get rows at_place ≡ Some row
  pub of_unit : row.unit ≡ n.unit
  pub same : row.incarnation ≡ n.incarnation

-- the node's incarnation is the first, or has such a row
abbrev pub Told : List Row → Node → Type 0
Told rows n = (n.incarnation ≡ 0) ⊎ ToldBy rows n

-- what the rows tell of has its row
pub told_row : (rows : List Row) (n : Node) → is_told rows n ≡ true → Told rows n
told_row rows n e = elim (or_cases (n.incarnation == 0) _ e) [
  | inl h ↦ inl (eq_true n.incarnation 0 h)
  | inr h ↦
      let a = any_at (λ r. (r.unit == n.unit) && (r.incarnation == n.incarnation)) rows h in
      let b = and_both _ _ a.1.2 in
      inr (record { at_place = a.0; row = a.1.0; found = a.1.1; of_unit = eq_true _ _ b.0; same = eq_true _ _ b.1 })
]

-- no row is past its unit's greatest incarnation
pub row_reached : (rows : List Row) (i : ℕ) (r : Row)
    → slice_get rows i ≡ Some r → r.incarnation ≤ incarnation_of rows r.unit
row_reached [] i r e = cc
row_reached (q ∷ rows) zero r e = let s : q ≡ r = same_Some q r e in rw s (rw (eq_same r.unit) (omega arith))
row_reached (q ∷ rows) (suc i) r e = go (q.unit == r.unit) (row_reached rows i r e)
  where
    go : (b : Bool) → r.incarnation ≤ incarnation_of rows r.unit
        → r.incarnation ≤ cond b (max q.incarnation (incarnation_of rows r.unit)) (incarnation_of rows r.unit)
    go true h = omega arith
    go false h = h

-- the greatest incarnation is that of a row, or the first
pub greatest_told : (rows : List Row) (n : Node) → n.incarnation ≡ incarnation_of rows n.unit → Told rows n
greatest_told [] n e = inl e
greatest_told (q ∷ rows) n e = elim (bool_cases (q.unit == n.unit)) [
  | inl h ↦
      let is : n.incarnation ≡ max q.incarnation (incarnation_of rows n.unit) = rw h at e in
      elim (dec_lt q.incarnation (incarnation_of rows n.unit)) [
        | yes l ↦ further (greatest_told rows n (omega arith))
        | no l ↦ inr (record { at_place = 0; row = q; found = refl; of_unit = eq_true _ _ h; same = omega arith })
      ]
  | inr h ↦ further (greatest_told rows n (rw h at e))
]
  where
    further : Told rows n → Told (q ∷ rows) n
    further (inl h) = inl h
    further (inr t) =
        inr (record { at_place = suc t.at_place; row = t.row; found = t.found; of_unit = t.of_unit; same = t.same })

-- more rows lose no less
abbrev pub loses_more : {rows : List Row} {n : Node} (more : List Row) → Loses rows n → Loses (rows ++ more) n
loses_more {rows} more l = record {
  at_place = l.at_place;
  row = l.row;
  found = append_get rows more l.at_place l.row l.found;
  of_unit = l.of_unit;
  later = l.later;
  before = l.before;
}

-- and tell no less
pub told_more : {rows : List Row} {n : Node} (more : List Row) → Told rows n → Told (rows ++ more) n
told_more more (inl e) = inl e
told_more {rows} more (inr t) = inr (record {
  at_place = t.at_place;
  row = t.row;
  found = append_get rows more t.at_place t.row t.found;
  of_unit = t.of_unit;
  same = t.same;
})

-- what only some of the rows lose, all of them lose
pub loses_taken : (rows : List Row) (n : Node) (k : ℕ) → Loses (take k rows) n → Loses rows n
loses_taken rows n k l = record {
  at_place = l.at_place;
  row = l.row;
  found = (get_take rows k l.at_place l.row l.found).0;
  of_unit = l.of_unit;
  later = l.later;
  before = l.before;
}

-- no row loses what is not lost
pub loses_absurd : (rows : List Row) (n : Node) → is_lost rows n ≡ false → ¬ Loses rows n
loses_absurd rows n e l = let h = row_lost rows n l in absurd (cc (e, h))

-- What holds of all nodes and rows together, and the chain law from it: any two nodes of one unit in one past are on
-- one line of predecessors.
use Rattle.std.proofs.Common.{◌≡◌, ◌⊎◌, inl, inr, refl, sym, ◌∙◌, ℕ, ◌<◌, ◌≤◌, Bool, true, false, not, List, length}
use Rattle.std.proofs.Common.{take, arith}
use Rattle.std.specs.Prelude.{Some, slice_get}
use native.Mathlib.Decide.{dec_lt}
use Rattle.model.specs.declared.names.Row.{Row}
use Rattle.model.specs.Nodes.{Node, node_at, past, DependsOn}
use Rattle.model.specs.World.{World, Member, is_lost, is_told, is_blind, is_orphan, incarnation_of}
use Rattle.model.specs.Nodes.DependsOn.{itself}
use Rattle.theory.proofs.ListLaws.{get_take, has_at, at_any, take_get, bool_cases}
use Rattle.theory.proofs.Pasts.{Placed, depends_le, depends_past}
use Rattle.theory.proofs.Invariants.{Sound}
use Rattle.theory.proofs.RowLaws.{Loses, row_lost, Told, told_row}

-- y is x or one of the nodes before it
pub data OnLine (nodes : List Node) (x : ℕ) : ℕ → Type 0 where
  here : OnLine nodes x x
  back : (y z : ℕ) → OnLine nodes x y → (node_at nodes y).before ≡ Some z → OnLine nodes x z

-- a row of no later incarnation than b loses a
pub record LostFor (table : List Row) (a b : Node) : Type 0 where
  pub by : Loses table a
  pub within : by.row.incarnation ≤ b.incarnation

-- two nodes: one is on the other's line, or a row between them loses one
pub data Fork (table : List Row) (nodes : List Node) (x y : ℕ) : Type 0 where
  after : OnLine nodes x y → Fork table nodes x y
  ahead : OnLine nodes y x → Fork table nodes x y
  first_lost : LostFor table (node_at nodes x) (node_at nodes y) → Fork table nodes x y
  second_lost : LostFor table (node_at nodes y) (node_at nodes x) → Fork table nodes x y

-- these rows tell of the node and do not lose it
abbrev pub Safe : List Row → Node → Type 0
Safe rows n = Told rows n × (¬ Loses rows n)

-- where the node stands: on the path, or lost, or cut by a kill after which its unit did not restart yet
pub data Whereabouts (table : List Row) (path : List ℕ) (up : Bool) (x : ℕ) (n : Node) : Type 0 where
  on_path : slice_get path n.index ≡ Some x → Whereabouts table path up x n
  lost : Loses table n → Whereabouts table path up x n
  cut_off : up ≡ false → length path ≤ n.index → Whereabouts table path up x n

-- what holds of the unit at u: it knows its own rows, and the past of its path is safe by the rows that it knows
pub record ChainMember (nodes : List Node) (table : List Row) (u : ℕ) (m : Member) : Type 0 where
  pub own_known : (i : ℕ) (r : Row) → slice_get table i ≡ Some r → r.unit ≡ u → i < m.known
  pub knows : m.known ≤ length table
  pub safe : (i x y : ℕ) → slice_get m.path i ≡ Some x
      → DependsOn nodes x y → Safe (take m.known table) (node_at nodes y)
  pub whereabouts : (x : ℕ) → x < length nodes
      → (node_at nodes x).unit ≡ u → Whereabouts table m.path m.up x (node_at nodes x)

-- that of every unit
abbrev pub ChainMembers : List Node → List Row → List Member → Type 0
ChainMembers nodes table members = (u : ℕ) (m : Member) → slice_get members u ≡ Some m → ChainMember nodes table u m

-- some front of the table finds all of the past safe
pub record SafePast (nodes : List Node) (table : List Row) (z : ℕ) : Type 0 where
  pub rows : ℕ
  pub enough : rows ≤ length table
  pub all_safe : (y : ℕ) → DependsOn nodes z y → Safe (take rows table) (node_at nodes y)

-- What holds of all nodes and rows: a unit's rows begin ever later incarnations, each node's incarnation has a row,
-- two nodes of one unit are on one line or a row between them loses one, and each node was made on what some front of
-- the table finds safe.
pub record Chain (w : World) : Type 0 where
  pub sound : Sound w
  pub units : ChainMembers w.nodes w.table w.members
  pub ordered : (i j : ℕ) (r q : Row) → i < j
      → slice_get w.table i ≡ Some r → slice_get w.table j ≡ Some q → r.unit ≡ q.unit → r.incarnation < q.incarnation
  pub reached : (x : ℕ) → x < length w.nodes
      → (node_at w.nodes x).incarnation ≤ incarnation_of w.table (node_at w.nodes x).unit
  pub told : (x : ℕ) → x < length w.nodes → Told w.table (node_at w.nodes x)
  pub owned : (x : ℕ) → x < length w.nodes → (node_at w.nodes x).unit < length w.members
  pub forks : (x y : ℕ) → x < length w.nodes
      → y < length w.nodes → (node_at w.nodes x).unit ≡ (node_at w.nodes y).unit → Fork w.table w.nodes x y
  pub pasts : (z : ℕ) → z < length w.nodes → SafePast w.nodes w.table z

-- ---- the law

-- of what is not blind, the rows tell of all the past
pub not_blind_told : (nodes : List Node) (rows : List Row) → Placed nodes
    → (x y : ℕ) → x < length nodes → is_blind nodes rows x ≡ false → DependsOn nodes x y → Told rows (node_at nodes y)
not_blind_told nodes rows placed x y within e d = elim (bool_cases (is_told rows (node_at nodes y))) [
  | inl h ↦ told_row rows (node_at nodes y) h
  | inr h ↦
      let le = depends_le placed d in
      let k = has_at (past nodes x) y (depends_past nodes placed x y d (omega arith)) in
      let b : is_blind nodes rows x ≡ true =
      at_any (λ z. not (is_told rows (node_at nodes z))) (past nodes x) k.0 y k.1 (rw h refl) in
      absurd (cc (b, e))
]

-- of what is no orphan, the rows lose nothing of the past
pub not_orphan_safe : (nodes : List Node) (rows : List Row) → Placed nodes → (x y : ℕ)
    → x < length nodes → is_orphan nodes rows x ≡ false → DependsOn nodes x y → ¬ Loses rows (node_at nodes y)
not_orphan_safe nodes rows placed x y within e d l =
    let le = depends_le placed d in
    let k = has_at (past nodes x) y (depends_past nodes placed x y d (omega arith)) in
    let b : is_orphan nodes rows x ≡ true =
    at_any (λ z. is_lost rows (node_at nodes z)) (past nodes x) k.0 y k.1 (row_lost rows (node_at nodes y) l) in
    absurd (cc (b, e))

-- a front of the table that tells of y has the row that loses x before y
pub known_loss : (w : World) → Chain w
    → (k x y : ℕ) → (node_at w.nodes x).unit ≡ (node_at w.nodes y).unit → Told (take k w.table) (node_at w.nodes y)
    → LostFor w.table (node_at w.nodes x) (node_at w.nodes y) → Loses (take k w.table) (node_at w.nodes x)
known_loss w c k x y same (inl e) l = let a = l.by.later in let b = l.within in absurd (omega arith)
known_loss w c k x y same (inr t) l =
    let f = get_take w.table k t.at_place t.row t.found in
    let known : l.by.at_place < k = elim (dec_lt t.at_place l.by.at_place) [
      | yes h ↦ let o = c.ordered t.at_place l.by.at_place t.row l.by.row h f.0 l.by.found (t.of_unit
          ∙ sym same ∙ sym l.by.of_unit) in let a = l.within in let b = t.same in absurd (omega arith)
      | no h ↦ omega (arith, f.1)
    ] in
    record {
      at_place = l.by.at_place;
      row = l.by.row;
      found = take_get w.table
          k l.by.at_place l.by.row known l.by.found;
      of_unit = l.by.of_unit;
      later = l.by.later;
      before = l.by.before;
    }

-- two nodes of one unit that some front of the table finds safe are on one line
safe_line : (w : World) → Chain w
    → (k x y : ℕ) → x < length w.nodes → y < length w.nodes → (node_at w.nodes x).unit ≡ (node_at w.nodes y).unit
    → Safe (take k w.table) (node_at w.nodes x)
    → Safe (take k w.table) (node_at w.nodes y) → OnLine w.nodes x y ⊎ OnLine w.nodes y x
safe_line w c k x y xin yin same sx sy = elim (c.forks x y xin yin same) [
  | after l ↦ inl l
  | ahead l ↦ inr l
  | first_lost l ↦ absurd (sx.1 (known_loss w c k x y same sy.0 l))
  | second_lost l ↦ absurd (sy.1 (known_loss w c k y x (sym same) sx.0 l))
]

-- any two nodes of one unit in one past are on one line
pub chain_law : (w : World) → Chain w → (z x y : ℕ) → z < length w.nodes → DependsOn w.nodes z x → DependsOn w.nodes z y
    → (node_at w.nodes x).unit ≡ (node_at w.nodes y).unit → OnLine w.nodes x y ⊎ OnLine w.nodes y x
chain_law w c z x y zin dx dy same =
    let p = c.pasts z zin in
    let lx = depends_le c.sound.placed dx in
    let ly = depends_le c.sound.placed dy in
    safe_line w c p.rows x y (omega arith) (omega arith) same (p.all_safe x dx) (p.all_safe y dy)

-- of two nodes of one unit that are not on one line, the one of the lesser incarnation is lost by a row
-- known to every unit for which the other is not blind
pub forked_lost : (w : World) → Chain w
    → (x y : ℕ) → x < length w.nodes → y < length w.nodes → (node_at w.nodes x).unit ≡ (node_at w.nodes y).unit
    → (node_at w.nodes x).incarnation ≤ (node_at w.nodes y).incarnation → ¬ OnLine w.nodes x y → ¬ OnLine w.nodes y x
    → (k : ℕ) → is_blind w.nodes (take k w.table) y ≡ false → Loses (take k w.table) (node_at w.nodes x)
forked_lost w c x y xin yin same le nx ny k seen = elim (c.forks x y xin yin same) [
  | after l ↦ absurd (nx l)
  | ahead l ↦ absurd (ny l)
  | first_lost l ↦
      known_loss w c k x y same (not_blind_told w.nodes (take k w.table) c.sound.placed y y yin seen itself) l
  | second_lost l ↦ let a = l.by.later in let b = l.within in absurd (omega arith)
]

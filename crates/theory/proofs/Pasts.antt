-- The computed past is the least set: it is the relation.
use Rattle.std.proofs.Common.{◌≡◌, ◌≢◌, ◌⊎◌, inl, inr, refl, ◌∙◌, ℕ, suc, ◌<◌, ◌≤◌, Bool, true, false, cond, List, []}
use Rattle.std.proofs.Common.{◌∷◌, ◌++◌, length, arith, ne_eqb}
use Rattle.std.specs.Prelude.{◌==◌}
use native.Mathlib.Decide.{dec_lt}
use Rattle.model.specs.Lists.{has}
use Rattle.model.specs.Nodes.{Node, no_node, node_at, parents, past, past_of_all, DependsOn}
use Rattle.model.specs.Nodes.DependsOn.{itself, through}
use Rattle.theory.proofs.ListLaws.{eq_true, eq_same, has_append, append_has, or_cases, or_left}

-- a node's parents were made before it
abbrev pub Placed : List Node → Type 0
Placed nodes = (x p : ℕ) → has (parents (node_at nodes x)) p ≡ true → p < x

-- what is in a list of one is that one
pub only : (y x : ℕ) → has (x ∷ []) y ≡ true → x ≡ y
only y x e = elim (or_cases (x == y) false e) [ inl h ↦ eq_true x y h | inr h ↦ absurd (cc h) ]

-- the node at the last place is the newest
pub node_newest : (n : Node) (older : List Node) (x : ℕ) → x ≡ length older → node_at (n ∷ older) x ≡ n
node_newest n older x e = rw (e, eq_same (length older)) refl

-- and that at another place is one of the older
pub node_older : (n : Node) (older : List Node) (x : ℕ) → x ≢ length older → node_at (n ∷ older) x ≡ node_at older x
node_older n older x h = rw (ne_eqb x (length older) h) refl

-- as is that at an earlier place
pub node_earlier : (n : Node) (older : List Node) (x : ℕ) → x < length older → node_at (n ∷ older) x ≡ node_at older x
node_earlier n older x h = node_older n older x (omega arith)

-- there is no node from the length on
pub node_past_end : (nodes : List Node) (x : ℕ) → length nodes ≤ x → node_at nodes x ≡ no_node
node_past_end [] x h = refl
node_past_end (n ∷ older) x h = node_older n older x (omega arith) ∙ node_past_end older x (omega arith)

-- what has a parent is a node
pub parent_within : (nodes : List Node) (x p : ℕ) → has (parents (node_at nodes x)) p ≡ true → x < length nodes
parent_within nodes x p e = elim (dec_lt x (length nodes)) [
  | yes h ↦ h
  | no h ↦ absurd (let q = rw (node_past_end nodes x (omega arith)) at e in cc)
]

-- the older nodes' parents come first too
pub placed_older : (n : Node) (older : List Node) → Placed (n ∷ older) → Placed older
placed_older n older placed x p e =
    let within = parent_within older x p e in
    placed x p (rw (node_older n older x (omega arith)) e)

-- the first step of a dependence
pub first_step : {nodes : List Node} {x y : ℕ}
    → DependsOn nodes x y → (x ≡ y) ⊎ ((p : ℕ) × (has (parents (node_at nodes x)) p ≡ true) × DependsOn nodes p y)
first_step itself = inl refl
first_step {nodes} {x} (through {y = y} {z = z} d h) = elim (first_step d) [
  | inl e ↦ inr (z, rw e h, itself)
  | inr r ↦ inr (r.0, r.1, through r.2 h)
]

-- what a parent depends on, the node does
pub from_parent : {nodes : List Node} {x p y : ℕ}
    → has (parents (node_at nodes x)) p ≡ true → DependsOn nodes p y → DependsOn nodes x y
from_parent h itself = through itself h
from_parent h (through d k) = through (from_parent h d) k

-- dependences follow one another
pub depends_trans : {nodes : List Node} {x y z : ℕ} → DependsOn nodes x y → DependsOn nodes y z → DependsOn nodes x z
depends_trans d itself = d
depends_trans d (through e k) = through (depends_trans d e) k

-- what a node depends on was made before it, or is it
pub depends_le : {nodes : List Node} {x y : ℕ} → Placed nodes → DependsOn nodes x y → y ≤ x
depends_le placed itself = omega arith
depends_le placed (through {y = y} {z = z} d h) = omega (arith, depends_le placed d, placed y z h)

-- one more node leaves dependences as they were
depends_more : {older : List Node} {x y : ℕ} (n : Node) → DependsOn older x y → DependsOn (n ∷ older) x y
depends_more n itself = itself
depends_more {older} n (through {y = y} {z = z} d h) =
    let within = parent_within older y z h in
    through (depends_more n d) (rw (node_older n older y (omega arith)) h)

-- an older node depends on older nodes alone
pub depends_less : {older : List Node} (n : Node) {x y : ℕ}
    → Placed (n ∷ older) → x < length older → DependsOn (n ∷ older) x y → DependsOn older x y
depends_less n placed h itself = itself
depends_less {older} n placed h (through {y = y} {z = z} d k) =
    let below = depends_le placed d in
    through (depends_less n placed h d) (rw (node_older n older y (omega arith)) at k)

-- each of the computed past is one on which a wanted node depends
abbrev Found : List Node → List ℕ → ℕ → Type 0
Found nodes wanted y = (w : ℕ) × (has wanted w ≡ true) × DependsOn nodes w y

abbrev AllFound : List Node → Type 0
AllFound nodes = (wanted : List ℕ) (y : ℕ) → has (past_of_all nodes wanted) y ≡ true → Found nodes wanted y

found_more : (n : Node) (older : List Node) (ps wanted : List ℕ) (y : ℕ) → ((p : ℕ)
    → has ps p ≡ true → Found (n ∷ older) wanted p) → Found older (ps ++ wanted) y → Found (n ∷ older) wanted y
found_more n older ps wanted y ok r =
    elim (has_append ps wanted r.0 r.1) [
      | inl q ↦ let t = ok r.0 q in (t.0, t.1, depends_trans t.2 (depends_more n r.2))
      | inr q ↦ (r.0, q, depends_more n r.2)
    ]

found_step : (n : Node) (older : List Node) (wanted : List ℕ) (y : ℕ)
    → AllFound older → (b : Bool) → has wanted (length older) ≡ b
    → has (cond b (length older ∷ []) [] ++ past_of_all older (cond b (parents n) [] ++ wanted)) y ≡ true
    → Found (n ∷ older) wanted y
found_step n older wanted y sound false q h = found_more n older [] wanted y (λ p k. absurd (cc k)) (sound wanted y h)
found_step n older wanted y sound true q h =
    elim (has_append (length older ∷ []) (past_of_all older (parents n ++ wanted)) y h) [
      | inl k ↦ (length older, q, rw (← only y (length older) k) itself)
      | inr k ↦ found_more n older (parents n) wanted y
          (λ p t. (length older, q, from_parent (rw (node_newest n older (length older) refl) t) itself))
          (sound (parents n ++ wanted) y k)
    ]

computed_depends : (nodes : List Node) → AllFound nodes
computed_depends [] wanted y e = absurd (cc e)
computed_depends (n ∷ older) wanted y e =
    found_step n older wanted y (computed_depends older) (has wanted (length older)) refl e

-- and each of those is computed
abbrev AllComputed : List Node → Type 0
AllComputed nodes = (wanted : List ℕ) (w y : ℕ)
    → has wanted w ≡ true → DependsOn nodes w y → y < length nodes → has (past_of_all nodes wanted) y ≡ true

complete_at : (n : Node) (older : List Node) → Placed (n ∷ older)
    → AllComputed older → (wanted : List ℕ) (w y : ℕ) → w ≡ length older → DependsOn (n ∷ older) w y
    → has ((length older ∷ []) ++ past_of_all older (parents n ++ wanted)) y ≡ true
complete_at n older placed complete wanted w y e d = elim (first_step d) [
  | inl q ↦ append_has (length older ∷ []) (past_of_all older (parents n ++ wanted))
      y (inl (or_left (length older == y) false (let r : y ≡ length older = cc in rw r (eq_same (length older)))))
  | inr r ↦
      let before : r.0 < length older = rw e at (placed w r.0 r.1) in
      let rest : DependsOn older r.0 y = depends_less n placed before r.2 in
      let le = depends_le placed r.2 in
      let hp : has (parents n) r.0 ≡ true = rw (node_newest n older w e) at r.1 in
      append_has (length older ∷ []) (past_of_all older (parents n ++ wanted)) y (inr
      (complete (parents n ++ wanted) r.0 y (append_has (parents n) wanted r.0 (inl hp)) rest (omega arith)))
]

complete_below : (n : Node) (older : List Node) → Placed (n ∷ older) → AllComputed older
    → (front more wanted : List ℕ) (w y : ℕ) → has wanted w ≡ true → w < length older → DependsOn (n ∷ older) w y
    → has (front ++ past_of_all older (more ++ wanted)) y ≡ true
complete_below n older placed complete front more wanted w y hw below d =
    let le = depends_le placed d in
    append_has front (past_of_all older (more ++ wanted)) y (inr
    (complete (more ++ wanted) w y (append_has more wanted w (inr hw)) (depends_less n placed below d) (omega arith)))

-- what depends on a node that there is is one itself
dependent_within : {nodes : List Node} {x y : ℕ} → DependsOn nodes x y → y < length nodes → x < length nodes
dependent_within {nodes} {x} {y} d h = elim (first_step d) [
  | inl e ↦ rw e h
  | inr r ↦ parent_within nodes x r.0 r.1
]

complete_step : (n : Node) (older : List Node) → Placed (n ∷ older) → AllComputed older
    → (wanted : List ℕ) (w y : ℕ) → has wanted w ≡ true → DependsOn (n ∷ older) w y → y < suc (length older)
    → (b : Bool) → has wanted (length older) ≡ b
    → has (cond b (length older ∷ []) [] ++ past_of_all older (cond b (parents n) [] ++ wanted)) y ≡ true
complete_step n older placed complete wanted w y hw d within true q = elim (dec_lt w (length older)) [
  | yes h ↦ complete_below n older placed complete (length older ∷ []) (parents n) wanted w y hw h d
  | no h ↦ let top = dependent_within d within in complete_at n older placed complete wanted w y (omega arith) d
]
complete_step n older placed complete wanted w y hw d within false q = elim (dec_lt w (length older)) [
  | yes h ↦ complete_below n older placed complete [] [] wanted w y hw h d
  | no h ↦ let top = dependent_within d within in
      let e : w ≡ length older = omega arith in let k = rw e at hw in absurd (cc (q, k))
]

depends_computed : (nodes : List Node) → Placed nodes → AllComputed nodes
depends_computed [] placed wanted w y hw d within = absurd (omega arith)
depends_computed (n ∷ older) placed wanted w y hw d within =
    complete_step n older placed
    (depends_computed older (placed_older n older placed)) wanted w y hw d within (has wanted (length older)) refl

-- the computed past of a node is just what it depends on
pub past_depends : (nodes : List Node) (x y : ℕ) → has (past nodes x) y ≡ true → DependsOn nodes x y
past_depends nodes x y e =
    let r = computed_depends nodes (x ∷ []) y e in
    rw (only r.0 x r.1) r.2

-- and all that a node depends on is in its past
pub depends_past : (nodes : List Node)
    → Placed nodes → (x y : ℕ) → DependsOn nodes x y → y < length nodes → has (past nodes x) y ≡ true
depends_past nodes placed x y d within =
    depends_computed nodes placed (x ∷ []) x y (or_left (x == x) false (eq_same x)) d within

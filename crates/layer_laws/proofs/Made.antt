-- A node's vector is what the calls on vectors make of those of its parents.
use Rattle.std.proofs.Common.{◌≡◌, inl, inr, refl, sym, ◌∙◌, ap, ℕ, suc, ◌+◌, ◌-◌, ◌<◌, ◌≤◌, true, cond, List, length}
use Rattle.std.proofs.Common.{set, arith, length-set, length-append, ne_eqb}
use Rattle.std.specs.Prelude.{Option, Some, None, ◌==◌, nat_le}
use Rattle.std.proofs.lemmas.Bool.Decides.{nat_tests}
use Rattle.std.proofs.lemmas.List.{ext_get_or, get_or_past, get_or-set_same, get_or-set_other, length-map}
use Rattle.std.proofs.lemmas.List.{length-replicate}
use native.Mathlib.Decide.{dec_lt, ℕ_discrete}
use Rattle.model.specs.declared.names.Mark.{Mark}
use Rattle.model.specs.Handler.{Meaning}
use Rattle.model.specs.Lists.{has, numbers_from}
use Rattle.model.specs.Nodes.{Node, Cause, began, outside, letter, node_at, parents, place_before, sender_of, past}
use Rattle.model.specs.Nodes.DependsOn.{itself}
use Rattle.model.specs.World.{World, mark_of, greater_mark, greatest_mark, no_mark, past_nodes}
use Rattle.model.specs.Records.{vector_of}
use Rattle.theory.specs.Laws.{entry_before, entry_of_cause}
use Rattle.theory.proofs.ListLaws.{bool_cases, eq_same, at_has, map_at, has_before, has_sender, get_or_padded}
use Rattle.theory.proofs.Pasts.{past_depends}
use Rattle.theory.proofs.Vectors.{greatest_attained}
use Rattle.theory.proofs.Counts.{is_began, units_at, units_above, units_step_le}
use Rattle.theory.proofs.CertificateRun.{past_unit, began_alone}
use Rattle.theory.proofs.Certificate.{Invariant, reachable_invariant}
use Rattle.theory.proofs.VectorJoin.{vectors_join}
use Rattle.depvector.specs.Vectors.{mark_for, joined, widened, begun_vector}
use Rattle.depvector.proofs.Joins.{length-joined}
use Rattle.layer_laws.specs.Laws.{IsMade, NodeVectorsAreMade, vector_before, vector_received}
use Rattle.layer_laws.proofs.Marks.{mark_for-joined}
use Rattle.layer_laws.proofs.Numbers.{length-numbers, get_or-numbers}

-- A node's vector has an entry for each unit that the tenant had when the node was made.
pub length-vector_of : (nodes : List Node) (x : ℕ) → length (vector_of nodes x) ≡ (node_at nodes x).units
length-vector_of nodes x = length-map (numbers_from 0 (node_at nodes x).units) (greatest_mark (past_nodes nodes x))
    ∙ length-numbers 0 (node_at nodes x).units

length-widened : (vector : List Mark) (n : ℕ) → length vector ≤ n → length (widened vector n) ≡ n
length-widened vector n h = let a = length-append vector (begun_vector (n - length vector)) in
    let b = length-replicate (n - length vector) no_mark in omega (arith, a, b)

module _ {S : Type 0} (M : Meaning S) (w : World) (g : Invariant M w) where
  -- a unit that was not there has no mark in a past
  none_past : (x u : ℕ) → x < length w.nodes
      → (node_at w.nodes x).units ≤ u → greatest_mark (past_nodes w.nodes x) u ≡ no_mark
  none_past x u h past_end = elim (greatest_attained (past_nodes w.nodes x) no_mark u) [
    | inl is ↦ is
    | inr t ↦ absurd (
        let r = map_at (node_at w.nodes) (past w.nodes x) t.place t.node t.found in
        let d = past_depends w.nodes x r.0 (at_has (past w.nodes x) t.place r.0 r.1) in
        let p = past_unit M w g.chain g.opening g.counted g.numbered x r.0 h d in
        let own : (node_at w.nodes r.0).unit ≡ u = ap (λ z. z.unit) (sym r.2) ∙ t.own in
        omega (arith, p, own))
  ]

  -- the vector has the greatest mark of every unit
  pub vector_marks : (x u : ℕ)
      → x < length w.nodes → mark_for (vector_of w.nodes x) u ≡ greatest_mark (past_nodes w.nodes x) u
  vector_marks x u h = elim (dec_lt u (node_at w.nodes x).units) [
    | yes q ↦ get_or-numbers (greatest_mark (past_nodes w.nodes x)) no_mark 0 (node_at w.nodes x).units u q
        ∙ ap (greatest_mark (past_nodes w.nodes x)) (let t : 0 + u ≡ u = omega arith in t)
    | no q ↦ get_or_past (vector_of w.nodes x) u no_mark (let long = length-vector_of w.nodes x in
        omega (arith, long, q)) ∙ sym (none_past x u h (omega arith))
  ]

  marks_before : (o : Option ℕ) (u : ℕ)
      → ((b : ℕ) → o ≡ Some b → b < length w.nodes) → mark_for (vector_before w.nodes o) u ≡ entry_before w.nodes u o
  marks_before None u h = refl
  marks_before (Some b) u h = vector_marks b u (h b refl)

  marks_received : (c : Cause) (u : ℕ) → ((l s : ℕ) → c ≡ letter l s → s < length w.nodes)
      → mark_for (vector_received w.nodes c) u ≡ entry_of_cause w.nodes u c
  marks_received began u h = refl
  marks_received (outside number text) u h = refl
  marks_received (letter l s) u h = vector_marks s u (h l s refl)

  -- a parent had no more units
  parent_units : (x p : ℕ) → x < length w.nodes
      → has (parents (node_at w.nodes x)) p ≡ true → (node_at w.nodes p).units ≤ (node_at w.nodes x).units
  parent_units x p h is =
      let k = g.counted in
      let o = g.opening in
      let below = g.chain.sound.placed x p is in
      elim (bool_cases (is_began (node_at w.nodes x).cause)) [
        | inl b ↦ absurd (let z = rw (began_alone M w g.chain g.opening g.counted g.numbered x h b) at is in cc z)
        | inr b ↦
            let own = k.others x h b in
            elim (bool_cases (is_began (node_at w.nodes p).cause)) [
              | inr q ↦ let t = k.others p (omega arith) q in
                  let le = units_step_le o w.nodes p x (omega arith) in omega (arith, own, t, le)
              | inl q ↦ elim (dec_lt p o) [
                | yes low ↦ let t = k.first_units p low in let le = units_above o w.nodes x in omega (arith, own, t, le)
                | no high ↦
                    let t = k.joined_units p (omega arith) (omega arith) q in
                    let j = k.joined p (omega arith) (omega arith) q in
                    let le = units_step_le o w.nodes (suc p) x (omega arith) in
                    let at : nat_le o p ≡ true = grind (arith, nat_tests) in
                    let z : units_at o w.nodes (suc p) ≡ suc (units_at o w.nodes p) = rw (at, q) refl in
                    omega (arith, own, t, j, le, z)
              ]
            ]
      ]

  length_before : (o : Option ℕ) (n : ℕ)
      → ((b : ℕ) → o ≡ Some b → (node_at w.nodes b).units ≤ n) → length (vector_before w.nodes o) ≤ n
  length_before None n h = omega arith
  length_before (Some b) n h = let t = h b refl in let l = length-vector_of w.nodes b in omega (arith, t, l)

  length_received : (c : Cause) (n : ℕ)
      → ((l s : ℕ) → c ≡ letter l s → (node_at w.nodes s).units ≤ n) → length (vector_received w.nodes c) ≤ n
  length_received began n h = omega arith
  length_received (outside number text) n h = omega arith
  length_received (letter l s) n h = let t = h l s refl in let k = length-vector_of w.nodes s in omega (arith, t, k)

  made : (x : ℕ) → x < length w.nodes → ((u : ℕ) → greatest_mark (past_nodes w.nodes x)
      u ≡ cond ((node_at w.nodes x).unit == u) (mark_of (node_at w.nodes x)) (greater_mark (entry_before w.nodes
      u (node_at w.nodes x).before) (entry_of_cause w.nodes u (node_at w.nodes x).cause))) → IsMade w.nodes x
  made x h law = record {
    vector = ext_get_or no_mark (vector_of w.nodes x)
        (set both n.unit (mark_of n)) lengths (λ u _. marks u);
    before = before;
    received = received;
    own = own;
  }
    where
      n : Node
      n = node_at w.nodes x

      from_before : (b : ℕ) → n.before ≡ Some b → has (parents n) b ≡ true
      from_before b e = has_before n.before (sender_of n.cause) b e

      from_sender : (l s : ℕ) → n.cause ≡ letter l s → has (parents n) s ≡ true
      from_sender l s e = has_sender (place_before n.before) n.cause l s e

      before : length (vector_before w.nodes n.before) ≤ n.units
      before = length_before n.before n.units (λ b e. parent_units x b h (from_before b e))

      received : length (vector_received w.nodes n.cause) ≤ n.units
      received = length_received n.cause n.units (λ l s e. parent_units x s h (from_sender l s e))

      own : n.unit < n.units
      own = past_unit M w g.chain g.opening g.counted g.numbered x x h itself

      wide : List Mark
      wide = widened (vector_before w.nodes n.before) n.units

      long : length wide ≡ n.units
      long = length-widened (vector_before w.nodes n.before) n.units before

      both : List Mark
      both = joined wide (vector_received w.nodes n.cause)

      both_long : length both ≡ n.units
      both_long = length-joined wide (vector_received w.nodes n.cause) ∙ long

      lengths : length (vector_of w.nodes x) ≡ length (set both n.unit (mark_of n))
      lengths = length-vector_of w.nodes x ∙ sym (length-set both n.unit (mark_of n) ∙ both_long)

      entries : (u : ℕ)
          → mark_for both u ≡ greater_mark (entry_before w.nodes u n.before) (entry_of_cause w.nodes u n.cause)
      entries u =
          mark_for-joined wide (vector_received w.nodes n.cause) u (omega (arith, received, long))
          ∙ ap (λ a. greater_mark a (mark_for (vector_received w.nodes n.cause) u)) (get_or_padded
          (vector_before w.nodes n.before) no_mark (n.units - length (vector_before w.nodes n.before)) u
          ∙ marks_before n.before u (λ b e. let t = g.chain.sound.placed x b (from_before b e) in omega (arith, t, h)))
          ∙ ap (greater_mark (entry_before w.nodes u n.before)) (marks_received n.cause u (λ l s e. let t =
          g.chain.sound.placed x s (from_sender l s e) in omega (arith, t, h)))

      marks : (u : ℕ) → mark_for (vector_of w.nodes x) u ≡ mark_for (set both n.unit (mark_of n)) u
      marks u = vector_marks x u h ∙ law u ∙ elim (ℕ_discrete u n.unit) [
        | yes e ↦ rw (
          e,
          eq_same n.unit,
        ) (sym (get_or-set_same both n.unit (mark_of n) no_mark (omega (arith, own, both_long))))
        | no q ↦ rw (ne_eqb n.unit u (λ e. q (sym e)))
            (sym (get_or-set_other both n.unit u (mark_of n) no_mark q ∙ entries u))
      ]

module _ {S : Type 0} (M : Meaning S) where
  -- every node's vector is made so
  pub vectors_are_made : NodeVectorsAreMade M
  vectors_are_made w r x h = made M w (reachable_invariant M r) x h (λ u. vectors_join M w r x u h)

-- The greatest marks of a past tell whether it is stable.
use Rattle.std.proofs.Common.{◌≡◌, inl, inr, refl, sym, ◌∙◌, ap, subst, ℕ, zero, suc, ◌+◌, ◌<◌, ◌≤◌, Bool, true, false}
use Rattle.std.proofs.Common.{not, length, arith, map}
use Rattle.std.proofs.lemmas.Option.{same_Some}
use Rattle.std.specs.Prelude.{Some, slice_get, ◌==◌, nat_lt}
use Rattle.std.specs.List.{list_any, filter}
use native.Mathlib.Decide.{dec_lt}
use Rattle.model.specs.declared.names.Mark.{Mark}
use Rattle.model.specs.Handler.{Meaning}
use Rattle.model.specs.Lists.{numbers_from}
use Rattle.model.specs.Nodes.{node_at, past, DependsOn}
use Rattle.model.specs.World.{World, Member, is_firm, is_stable, mark_of, mark_lost, greatest_mark, past_nodes, no_mark}
use Rattle.model.proofs.Places.{get_below}
use Rattle.theory.specs.Laws.{any_mark, stable_of, mark_stable, FirmByVector, UnstableByVector}
use Rattle.theory.proofs.ListLaws.{bool_cases, or_cases, any_at, has_at, at_has, map_at, and_both, both_and, true_lt}
use Rattle.theory.proofs.ListLaws.{lt_true, true_eq, eq_true, has_all, all_has, not_true, filtered_at}
use Rattle.theory.proofs.Pasts.{depends_le, depends_past, past_depends}
use Rattle.theory.proofs.Firm.{stable_stands, stands_stable}
use Rattle.theory.proofs.RowLaws.{Loses, loses_absurd}
use Rattle.theory.proofs.Chain.{Chain, chain_law}
use Rattle.theory.proofs.Chain.Whereabouts.{on_path, lost, cut_off}
use Rattle.theory.proofs.ChainKept.{line_on_path}
use Rattle.theory.proofs.Vectors.{Linked, MarkLe, greatest_attained, LosesMark, line_rises}
use Rattle.theory.proofs.VectorLaw.{any_from, same_bools, lost_mark, mark_is_lost}
use Rattle.theory.proofs.VectorJoin.{greatest_above}
use Rattle.theory.proofs.Counts.{is_began, units_step_le}
use Rattle.theory.proofs.CertificateRun.{past_unit}
use Rattle.theory.proofs.WithoutOptimism.{any_filter}
use Rattle.theory.proofs.Certificate.{Invariant, reachable_invariant}

module _ (w : World) (c : Chain w) (linked : Linked w.nodes) where
  -- a node within its unit's stable length that no row loses is stable
  index_stable : (y u : ℕ) (m : Member) → y < length w.nodes → (node_at w.nodes y).unit ≡ u
      → slice_get w.members u ≡ Some m → (node_at w.nodes y).index < m.stable → ¬ Loses w.table (node_at w.nodes y)
      → slice_get m.path (node_at w.nodes y).index ≡ Some y
  index_stable y u m yin own found low safe = elim ((c.units u m found).whereabouts y yin own) [
    | on_path e ↦ e
    | lost l ↦ absurd (safe l)
    | cut_off dn high ↦ absurd (let t = (c.sound.units u m found).logged in omega arith)
  ]

  at_stable : (u : ℕ) (m : Member) (i y : ℕ)
      → slice_get w.members u ≡ Some m → slice_get m.path i ≡ Some y → i < m.stable → is_stable w.members y ≡ true
  at_stable u m i y found on low =
      stands_stable w.members y (record { unit = u; member = m; place = i; found = found; on_path = on; logged = low })

  -- where the greatest mark of a unit is stable, all its nodes in the past are
  mark_all : (x u y : ℕ) (m : Member) → x < length w.nodes
      → slice_get w.members u ≡ Some m → mark_stable w u (greatest_mark (past_nodes w.nodes x) u) ≡ true
      → DependsOn w.nodes x y → (node_at w.nodes y).unit ≡ u → is_stable w.members y ≡ true
  mark_all x u y m xin found e d own =
      let g = greatest_mark (past_nodes w.nodes x) u in
      let le = depends_le c.sound.placed d in
      let yin : y < length w.nodes = omega arith in
      let b = and_both (nat_lt g.index (stable_of (slice_get w.members u))) (not (mark_lost w.table u g)) e in
      let low : g.index < m.stable = (let t = rw found at b.0 in lt_true g.index m.stable t) in
      let kept : mark_lost w.table u g ≡ false = not_true (mark_lost w.table u g) b.1 in
      let under : MarkLe (mark_of (node_at w.nodes y)) g = greatest_above w.nodes c.sound.placed x u y xin d own in
      let same_mark : (node_at w.nodes y).incarnation ≡ g.incarnation
      → (node_at w.nodes y).index ≡ g.index → is_stable w.members y ≡ true = λ p q.
      at_stable u m (node_at w.nodes y).index y found
      (index_stable y u m yin own found (omega arith) (λ l. let t = mark_is_lost w.table u g (
        l.at_place,
        (l.row, l.found, l.of_unit ∙ own, omega (arith, l.later, p), omega (arith, l.before, q)),
      ) in
      absurd (cc (t, kept))))
      (omega arith) in
      elim (greatest_attained (past_nodes w.nodes x) no_mark u) [
        | inl is ↦ let p : g.incarnation ≡ 0 = ap (λ z. z.incarnation) is in let q : g.index ≡ 0 =
            ap (λ z. z.index) is in same_mark (omega (arith, under, p, q)) (omega (arith, under, p, q))
        | inr t ↦
            let r = map_at (node_at w.nodes) (past w.nodes x) t.place t.node t.found in
            let y0 = r.0 in
            let d0 = past_depends w.nodes x y0 (at_has (past w.nodes x) t.place y0 r.1) in
            let le0 = depends_le c.sound.placed d0 in
            let own0 : (node_at w.nodes y0).unit ≡ u = ap (λ z. z.unit) (sym r.2) ∙ t.own in
            let is : mark_of (node_at w.nodes y0) ≡ g = ap mark_of (sym r.2) ∙ t.is in
            let p : (node_at w.nodes y0).incarnation ≡ g.incarnation = ap (λ z. z.incarnation) is in
            let q : (node_at w.nodes y0).index ≡ g.index = ap (λ z. z.index) is in
            elim (chain_law w c x y0 y xin d0 d (own0 ∙ sym own)) [
              | inl l ↦
                  let on = index_stable y0 u m (omega arith) own0 found (omega arith) (λ z. let k =
                  mark_is_lost w.table u g (
                    z.at_place,
                    (
                      z.row,
                      z.found,
                      z.of_unit ∙ own0,
                      omega (arith, z.later, p),
                      omega (arith, z.before, q),
                    ),
                  ) in absurd (cc (k, kept))) in
                  let j = line_on_path (c.sound.units u m found) (node_at w.nodes y0).index on l in
                  at_stable u m j.0 y found j.2 (omega (arith, j.1))
              | inr l ↦
                  let k = line_rises linked l in
                  same_mark (omega (arith, k.incarnation, under, p, q))
                  (omega (arith, k.incarnation, k.index, under, p, q))
            ]
      ]

  -- where all are, so is the greatest mark
  all_mark : (x u : ℕ) (m : Member) → x < length w.nodes → slice_get w.members u ≡ Some m
      → ((y : ℕ) → DependsOn w.nodes x y → (node_at w.nodes y).unit ≡ u → is_stable w.members y ≡ true)
      → mark_stable w u (greatest_mark (past_nodes w.nodes x) u) ≡ true
  all_mark x u m xin found all = elim (greatest_attained (past_nodes w.nodes x) no_mark u) [
    | inl is ↦ passes 0 0 (ap (λ z. z.incarnation) is) (ap (λ z. z.index) is) (let t =
        (c.sound.units u m found).begun in omega arith)
        (λ l. let t = c.sound.starts l.0 l.1.0 l.1.1 in let z = l.1.4 in omega (arith, ap (λ z. z.index) is))
    | inr t ↦
        let r = map_at (node_at w.nodes) (past w.nodes x) t.place t.node t.found in
        let y = r.0 in
        let d = past_depends w.nodes x y (at_has (past w.nodes x) t.place y r.1) in
        let own : (node_at w.nodes y).unit ≡ u = ap (λ z. z.unit) (sym r.2) ∙ t.own in
        let is : mark_of (node_at w.nodes y) ≡ greatest_mark (past_nodes w.nodes x) u = ap mark_of (sym r.2) ∙ t.is in
        let p : (node_at w.nodes y).incarnation ≡ (greatest_mark (past_nodes w.nodes x) u).incarnation =
        ap (λ z. z.incarnation) is in
        let q : (node_at w.nodes y).index ≡ (greatest_mark (past_nodes w.nodes x) u).index = ap (λ z. z.index) is in
        let st = stable_stands w.members y (all y d own) in
        let s = c.sound.units st.unit st.member st.found in
        let unit : st.unit ≡ u = sym (s.own st.place y st.on_path) ∙ own in
        let member : st.member ≡ m = same_Some st.member m (sym st.found ∙ ap (slice_get w.members) unit ∙ found) in
        let index : (node_at w.nodes y).index ≡ st.place = s.indexed st.place y st.on_path in
        let low : st.place < m.stable = subst (λ z. st.place < z.stable) member st.logged in
        passes (node_at w.nodes y).incarnation (node_at w.nodes y).index (sym p) (sym q) (omega arith)
        (λ l. loses_absurd w.table (node_at w.nodes y) (s.kept st.place y st.on_path)
        (record {
          at_place = l.0;
          row = l.1.0;
          found = l.1.1;
          of_unit = l.1.2 ∙ sym own;
          later = let a = l.1.3 in omega arith;
          before = let a = l.1.4 in omega arith;
        }))
  ]
    where
      passes : (a i : ℕ) → (greatest_mark (past_nodes w.nodes x) u).incarnation ≡ a
          → (greatest_mark (past_nodes w.nodes x) u).index ≡ i
          → i < m.stable → ¬ LosesMark w.table u (greatest_mark (past_nodes w.nodes x) u)
          → mark_stable w u (greatest_mark (past_nodes w.nodes x) u) ≡ true
      passes a i p q low safe =
          both_and (nat_lt (greatest_mark (past_nodes w.nodes x) u).index (stable_of (slice_get w.members u)))
          (not (mark_lost w.table u (greatest_mark (past_nodes w.nodes x) u)))
          (rw found (true_lt (greatest_mark (past_nodes w.nodes x) u).index m.stable (omega arith)))
          (elim (bool_cases (mark_lost w.table u (greatest_mark (past_nodes w.nodes x) u))) [
            | inr e ↦ ap not e
            | inl e ↦ absurd (safe (lost_mark w.table u (greatest_mark (past_nodes w.nodes x) u) e))
          ])

from_any_below : (p : ℕ → Mark → Bool) (f : ℕ → Mark) (n u : ℕ)
    → any_mark p u (map f (numbers_from u n)) ≡ true → (v : ℕ) × (v < u + n) × (p v (f v) ≡ true)
from_any_below p f zero u e = absurd (cc e)
from_any_below p f (suc n) u e = elim (or_cases (p u (f u)) (any_mark p (suc u) (map f (numbers_from (suc u) n))) e) [
  | inl h ↦ (u, omega arith, h)
  | inr h ↦ let t = from_any_below p f n (suc u) h in (t.0, omega (arith, t.1), t.2)
]

module _ {S : Type 0} (M : Meaning S) where
  -- a node had no more units than there are
  pub units_within : (w : World) (g : Invariant M w) (x : ℕ)
      → x < length w.nodes → (node_at w.nodes x).units ≤ length w.members
  units_within w g x h =
      let k = g.counted in
      elim (bool_cases (is_began (node_at w.nodes x).cause)) [
        | inr b ↦ let t = k.others x h b in
            let z = k.total in let le = units_step_le g.opening w.nodes x (length w.nodes) (omega arith) in omega arith
        | inl b ↦ elim (dec_lt x g.opening) [
          | yes low ↦ let t = k.first_units x low in let z = k.within in omega arith
          | no high ↦ let t = k.joined_units x h (omega arith) b in let z = g.chain.owned x h in omega arith
        ]
      ]

  -- a node is firm just where each greatest mark of its past is stable
  pub firm_by_vector : FirmByVector M
  firm_by_vector w r x h =
      let g = reachable_invariant M r in
      let c = g.chain in
      let marks = greatest_mark (past_nodes w.nodes x) in
      let n = (node_at w.nodes x).units in
      let test : ℕ → Mark → Bool = λ u m. not (mark_stable w u m) in
      same_bools (is_firm w x) (not (any_mark test 0 (map marks (numbers_from 0 n))))
      (λ firm. elim (bool_cases (any_mark test 0 (map marks (numbers_from 0 n)))) [
        | inr e ↦ ap not e
        | inl e ↦
            let v = from_any_below test marks n 0 e in
            let within = units_within w g x h in
            let q = get_below w.members v.0 (omega (arith, v.1)) in
            let all = all_mark w c g.linked x v.0 q.0 h q.1 (λ y d own. let le = depends_le c.sound.placed d in
            all_has (is_stable w.members) (past w.nodes x)
            firm y (depends_past w.nodes c.sound.placed x y d (omega arith))) in
            let no = not_true (mark_stable w v.0 (marks v.0)) v.2 in
            absurd (cc (all, no))
      ])
      (λ none. has_all (is_stable w.members) (past w.nodes x) (λ y hy.
      let d = past_depends w.nodes x y hy in
      let le = depends_le c.sound.placed d in
      let u = (node_at w.nodes y).unit in
      let q = get_below w.members u (c.owned y (omega arith)) in
      let below = past_unit M w c g.opening g.counted g.numbered x y h d in
      elim (bool_cases (mark_stable w u (marks u))) [
        | inl e ↦ mark_all w c g.linked x u y q.0 h q.1 e d refl
        | inr e ↦ absurd (
            let some = any_from test marks n 0 u (omega arith) (omega arith) (ap not e) in
            let no = not_true (any_mark test 0 (map marks (numbers_from 0 n))) none in cc (some, no))
      ]))

  -- a unit has an unstable node in a past just where its greatest mark there is not stable
  pub unstable_by_vector : UnstableByVector M
  unstable_by_vector w r x u m h found =
      let g = reachable_invariant M r in
      let c = g.chain in
      let mark = greatest_mark (past_nodes w.nodes x) u in
      let of_unit : ℕ → Bool = λ y. (node_at w.nodes y).unit == u in
      let lax : ℕ → Bool = λ y. not (is_stable w.members y) in
      same_bools (list_any of_unit (filter lax (past w.nodes x))) (not (mark_stable w u mark))
      (λ e.
      let a = any_at of_unit (filter lax (past w.nodes x)) e in
      let f = filtered_at lax (past w.nodes x) a.0 a.1.0 a.1.1 in
      let d = past_depends w.nodes x a.1.0 (at_has (past w.nodes x) f.0.0 a.1.0 f.0.1) in
      elim (bool_cases (mark_stable w u mark)) [
        | inr q ↦ ap not q
        | inl q ↦ absurd (
            let t = mark_all w c g.linked x u a.1.0 m h found q d (eq_true (node_at w.nodes a.1.0).unit u a.1.2) in
            let no = not_true (is_stable w.members a.1.0) f.1 in cc (t, no))
      ])
      (λ e. elim (bool_cases (list_any of_unit (filter lax (past w.nodes x)))) [
        | inl q ↦ q
        | inr q ↦ absurd (
            let all = all_mark w c g.linked x u m h found (λ y d own. elim (bool_cases (is_stable w.members y)) [
              | inl k ↦ k
              | inr k ↦ absurd (
                  let le = depends_le c.sound.placed d in
                  let at = has_at (past w.nodes x) y (depends_past w.nodes c.sound.placed x y d (omega arith)) in
                  let some = any_filter lax of_unit
                  (past w.nodes x) at.0 y at.1 (ap not k) (true_eq (node_at w.nodes y).unit u own) in cc (some, q))
            ]) in
            let no = not_true (mark_stable w u mark) e in cc (all, no))
      ])

-- The sessions along a path are made by the calls that count receipts and sends.
use Rattle.std.proofs.Common.{◌≡◌, inl, inr, refl, sym, ◌∙◌, ap, ℕ, zero, suc, ◌+◌, ◌<◌, cond, List, [], ◌∷◌, ◌++◌}
use Rattle.std.proofs.Common.{length, take, arith, map, replicate, add-zero, length-set}
use Rattle.std.specs.Prelude.{Option, Some, None, slice_get, ◌==◌, nat_lt}
use Rattle.std.specs.List.{filter}
use Rattle.std.proofs.lemmas.List.{ext_get_or, get_or-set_same, get_or-set_other, length-map}
use Rattle.std.proofs.lemmas.List.Sums.{sum_by-cons, sum_by_push}
use Rattle.model.specs.declared.names.Source.{Source}
use Rattle.model.specs.declared.names.Source.TheVariants.{Outside, Unit as FromUnit}
use Rattle.model.specs.Handler.{Meaning}
use Rattle.model.specs.Lists.{from_end, numbers_from}
use Rattle.model.specs.Nodes.{Node, Cause, began, outside, letter, node_at, execution, begun, count_to, count_along}
use Rattle.model.specs.Nodes.{place_before}
use Rattle.model.specs.World.{World, executed, source_of, is_from, taken}
use Rattle.theory.proofs.ListLaws.{bool_cases, eq_true, lt_true, has_sender, filtered_at, different}
use Rattle.theory.proofs.FirmVector.{units_within}
use Rattle.theory.proofs.LettersExact.{sends_are}
use Rattle.theory.proofs.Certificate.{Invariant, reachable_invariant}
use Rattle.session.specs.declared.exchange.Exchange.{Exchange}
use Rattle.session.specs.Counts.{Counts, nothing, exchanged, sent_one}
use Rattle.layer_laws.specs.Laws.{sessions_along, taken_one, sent_all, IsCountedOne, SessionsGoOn}
use Rattle.layer_laws.proofs.Numbers.{length-numbers}
use Rattle.layer_laws.proofs.Sessions.{exchange_along, entry_along}

-- ---- one receipt

taken-taken_one : (c : Counts) (o : Option Source) (u : ℕ)
    → IsCountedOne c o → (exchanged (taken_one c o) u).taken ≡ (exchanged c u).taken + cond (is_from (FromUnit u) o) 1 0
taken-taken_one c None u h = sym (add-zero _)
taken-taken_one c (Some Outside) u h = sym (add-zero _)
taken-taken_one c (Some (FromUnit v)) u h = elim (bool_cases (v == u)) [
  | inl e ↦ let is : v ≡ u = eq_true v u e in
      rw (e, ← is) (ap (λ (x : Exchange). x.taken) (get_or-set_same c.units v _ nothing h))
  | inr e ↦ rw e
      (ap (λ (x : Exchange). x.taken) (get_or-set_other c.units v u _ nothing (different v u e)) ∙ sym (add-zero _))
]

sent-taken_one : (c : Counts) (o : Option Source) (u : ℕ)
    → IsCountedOne c o → (exchanged (taken_one c o) u).sent ≡ (exchanged c u).sent
sent-taken_one c None u h = refl
sent-taken_one c (Some Outside) u h = refl
sent-taken_one c (Some (FromUnit v)) u h = elim (bool_cases (v == u)) [
  | inl e ↦ let is : v ≡ u = eq_true v u e in
      rw (← is) (ap (λ (x : Exchange). x.sent) (get_or-set_same c.units v _ nothing h))
  | inr e ↦ ap (λ (x : Exchange). x.sent) (get_or-set_other c.units v u _ nothing (different v u e))
]

outside-taken_one : (c : Counts) (o : Option Source)
    → (taken_one c o).outside ≡ c.outside + cond (is_from Outside o) 1 0
outside-taken_one c None = sym (add-zero _)
outside-taken_one c (Some Outside) = refl
outside-taken_one c (Some (FromUnit v)) = sym (add-zero _)

length-taken_one : (c : Counts) (o : Option Source) → length (taken_one c o).units ≡ length c.units
length-taken_one c None = refl
length-taken_one c (Some Outside) = refl
length-taken_one c (Some (FromUnit v)) = length-set c.units v _

-- ---- sends

abbrev Within : List (ℕ × List ℕ) → ℕ → Type 0
Within sends n = (j : ℕ) (s : ℕ × List ℕ) → slice_get sends j ≡ Some s → s.0 < n

taken-sent_all : (sends : List (ℕ × List ℕ)) (c : Counts) (u : ℕ)
    → Within sends (length c.units) → (exchanged (sent_all c sends) u).taken ≡ (exchanged c u).taken
taken-sent_all [] c u h = refl
taken-sent_all (s ∷ sends) c u h =
    taken-sent_all sends (sent_one c s.0) u (λ j t e. rw (length-set c.units s.0 _) (h (suc j) t e))
    ∙ elim (bool_cases (s.0 == u)) [
      | inl e ↦ let is : s.0 ≡ u = eq_true s.0 u e in
          rw (← is) (ap (λ (x : Exchange). x.taken) (get_or-set_same c.units s.0 _ nothing (h 0 s refl)))
      | inr e ↦ ap (λ (x : Exchange). x.taken) (get_or-set_other c.units s.0 u _ nothing (different s.0 u e))
    ]

sent-sent_one : (c : Counts) (v u : ℕ)
    → v < length c.units → (exchanged (sent_one c v) u).sent ≡ (exchanged c u).sent + cond (v == u) 1 0
sent-sent_one c v u h = elim (bool_cases (v == u)) [
  | inl e ↦ let is : v ≡ u = eq_true v u e in
      rw (e, ← is) (ap (λ (x : Exchange). x.sent) (get_or-set_same c.units v _ nothing h))
  | inr e ↦
      rw e (ap (λ (x : Exchange). x.sent) (get_or-set_other c.units v u _ nothing (different v u e)) ∙ sym (add-zero _))
]

sent-sent_all : (sends : List (ℕ × List ℕ)) (c : Counts) (u : ℕ)
    → Within sends (length c.units) → (exchanged (sent_all c sends) u).sent ≡ (exchanged c u).sent + count_to u sends
sent-sent_all [] c u h = sym (add-zero _)
sent-sent_all (s ∷ sends) c u h =
    let rest = sent-sent_all sends (sent_one c s.0) u (λ j t e. rw (length-set c.units s.0 _) (h (suc j) t e)) in
    let one = sent-sent_one c s.0 u (h 0 s refl) in
    let more = sum_by-cons (λ t. cond (t.0 == u) 1 0) s sends in
    omega (arith, rest, one, more)

outside-sent_all : (sends : List (ℕ × List ℕ)) (c : Counts) → (sent_all c sends).outside ≡ c.outside
outside-sent_all [] c = refl
outside-sent_all (s ∷ sends) c = outside-sent_all sends (sent_one c s.0)

length-sent_all : (sends : List (ℕ × List ℕ)) (c : Counts) → length (sent_all c sends).units ≡ length c.units
length-sent_all [] c = refl
length-sent_all (s ∷ sends) c = length-sent_all sends (sent_one c s.0) ∙ length-set c.units s.0 _

-- a send that passes a test is within
within_filter : (n : ℕ) (sends : List (ℕ × List ℕ)) → Within (filter (λ s. nat_lt s.0 n) sends) n
within_filter n sends j s e = lt_true s.0 n (filtered_at (λ s. nat_lt s.0 n) sends j s e).1

none_exchanged : (k n : ℕ) → map (λ (u : ℕ). nothing) (numbers_from k n) ≡ replicate n nothing
none_exchanged k zero = refl
none_exchanged k (suc n) = ap (λ r. nothing ∷ r) (none_exchanged (suc k) n)

module _ {S : Type 0} (M : Meaning S) where
  length-along : (nodes : List Node) (n : ℕ) (path : List ℕ) → length (sessions_along M nodes n path).units ≡ n
  length-along nodes n path = length-map (numbers_from 0 n) (exchange_along M nodes path) ∙ length-numbers 0 n

  -- one more node
  along_more : (nodes : List Node) (n : ℕ) (path : List ℕ) (x : ℕ)
      → IsCountedOne (sessions_along M nodes n path) (source_of nodes (node_at nodes x).cause)
      → Within (from_end (execution M nodes).sends x []) n
      → sessions_along M nodes n (path ++ x ∷ []) ≡ sent_all (taken_one (sessions_along M nodes n path)
      (source_of nodes (node_at nodes x).cause)) (from_end (execution M nodes).sends x [])
  along_more nodes n path x counted within = λ i. record { outside = outsides i; units = units i }
    where
      o : Option Source
      o = source_of nodes (node_at nodes x).cause

      sends : List (ℕ × List ℕ)
      sends = from_end (execution M nodes).sends x []

      c : Counts
      c = sessions_along M nodes n path

      d : Counts
      d = taken_one c o

      long : length d.units ≡ n
      long = length-taken_one c o ∙ length-along nodes n path

      fits : Within sends (length d.units)
      fits j s e = rw long (within j s e)

      outsides : (sessions_along M nodes n (path ++ x ∷ [])).outside ≡ (sent_all d sends).outside
      outsides = sum_by_push (λ y. cond (is_from Outside (source_of nodes (node_at nodes y).cause)) 1 0) path x
          ∙ sym (outside-taken_one c o) ∙ sym (outside-sent_all sends d)

      takens : (u : ℕ) → u < n → taken nodes (path ++ x ∷ []) (FromUnit u) ≡ (exchanged (sent_all d sends) u).taken
      takens u h =
          sum_by_push (λ y. cond (is_from (FromUnit u) (source_of nodes (node_at nodes y).cause)) 1 0) path x
          ∙ ap (λ t. t + cond (is_from (FromUnit u) o) 1 0)
          (sym (ap (λ (e : Exchange). e.taken) (entry_along M nodes n path u h)))
          ∙ sym (taken-taken_one c o u counted) ∙ sym (taken-sent_all sends d u fits)

      sents : (u : ℕ)
          → u < n → count_along (execution M nodes).sends u (path ++ x ∷ []) ≡ (exchanged (sent_all d sends) u).sent
      sents u h =
          sum_by_push (λ y. count_to u (from_end (execution M nodes).sends y [])) path x
          ∙ ap (λ t. t + count_to u sends)
          (sym (sent-taken_one c o u counted ∙ ap (λ (e : Exchange). e.sent) (entry_along M nodes n path u h)))
          ∙ sym (sent-sent_all sends d u fits)

      units : (sessions_along M nodes n (path ++ x ∷ [])).units ≡ (sent_all d sends).units
      units = ext_get_or nothing _ _ (length-along nodes n (path ++ x ∷ []) ∙ sym (length-sent_all sends d ∙ long))
          (λ u h.
          let k : u < n = let t = length-along nodes n (path ++ x ∷ []) in omega (arith, h, t) in
          entry_along M nodes n (path ++ x ∷ []) u k ∙ (λ i. record { taken = takens u k i; sent = sents u k i }))

  -- the source of a node's letter is there
  source_there : (w : World) (g : Invariant M w) (x : ℕ) (path : List ℕ) (k : Cause)
      → x < length w.nodes → (node_at w.nodes x).cause ≡ k
      → IsCountedOne (sessions_along M w.nodes (length w.members) path) (source_of w.nodes k)
  source_there w g x path began h e = tt
  source_there w g x path (outside number text) h e = tt
  source_there w g x path (letter l s) h e =
      let below = g.chain.sound.placed
      x s (has_sender (place_before (node_at w.nodes x).before) (node_at w.nodes x).cause l s e) in
      let own = g.chain.owned s (omega (arith, below, h)) in
      let long = length-along w.nodes (length w.members) path in
      omega (arith, own, long)

  -- Sessions are none at first, and go on along a path by each node's receipt and sends.
  pub sessions_go_on : SessionsGoOn M
  sessions_go_on w r =
      let g = reachable_invariant M r in
      let n = length w.members in (
        (λ i. record { outside = 0; units = none_exchanged 0 n i }),
        λ u m found i x e.
            let h = (g.chain.sound.units u m found).made i x e in
            let source = source_there w g x (take i m.path) (node_at w.nodes x).cause h refl in
            let units = units_within M w g x h in
            let receivers : Within (from_end (executed M w).sends x []) n = (λ j s f.
            let all =
            within_filter (node_at w.nodes x).units (from_end (executed M w).turns x (begun M m.seat)).sends in
            let t = all j s (ap (λ z. slice_get z j) (sym (sends_are M w.nodes (begun M m.seat) x h)) ∙ f) in
            omega (arith, t, units)) in
            record {
              more = along_more w.nodes n (take i m.path) x source receivers;
              source = source;
              receivers = receivers;
            },
      )

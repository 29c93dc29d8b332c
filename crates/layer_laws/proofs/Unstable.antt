-- The units that are unstable by a vector are as many as have an unstable node in the past.
use Rattle.std.proofs.Common.{◌≡◌, inl, inr, refl, sym, ◌∙◌, ap, ℕ, zero, suc, ◌+◌, ◌<◌, ◌≤◌, Bool, true, false, cond}
use Rattle.std.proofs.Common.{not, ◌&&◌, List, [], ◌∷◌, length, arith, map}
use Rattle.std.specs.Prelude.{Some, slice_get, slice_index, nat_lt, ◌==◌}
use Rattle.std.specs.List.{list_any, filter}
use Rattle.std.proofs.lemmas.List.{length-map}
use Rattle.model.specs.declared.names.Mark.{Mark}
use Rattle.model.specs.Handler.{Meaning}
use Rattle.model.specs.Lists.{numbers_from}
use Rattle.model.specs.Nodes.{node_at, past}
use Rattle.model.specs.World.{World, Member, is_stable, mark_lost, greatest_mark, past_nodes}
use Rattle.theory.specs.Laws.{stable_of}
use Rattle.theory.proofs.ListLaws.{bool_cases, any_at, at_has, eq_true, filtered_at}
use Rattle.theory.proofs.Pasts.{past_depends}
use Rattle.theory.proofs.CertificateRun.{past_unit}
use Rattle.theory.proofs.Certificate.{Invariant, reachable_invariant}
use Rattle.theory.proofs.FirmVector.{units_within, unstable_by_vector}
use Rattle.orphan.specs.Tests.{count_marks, is_stable_by}
use Rattle.layer_laws.specs.Laws.{UnstableAreCounted, stable_lengths}
use Rattle.layer_laws.proofs.Made.{length-vector_of}

-- those that pass are as many as marks that do, where marks and elements pass alike, and those without a mark don't
count_same : {X : Type 0} (P : X → Bool) (p : ℕ → Mark → Bool) (f : ℕ → Mark) (k n : ℕ) (xs : List X) → n ≤ length xs
    → ((i : ℕ) (x : X) → slice_get xs i ≡ Some x → i < n → P x ≡ p (k + i) (f (k + i)))
    → ((i : ℕ) (x : X) → slice_get xs i ≡ Some x → n ≤ i → P x ≡ false)
    → count_marks p k (map f (numbers_from k n)) ≡ length (filter P xs)
count_same P p f k zero [] h same none = refl
count_same P p f k (suc n) [] h same none = absurd (omega arith)
count_same P p f k zero (x ∷ xs) h same none = rw (none 0 x refl (omega arith)) (count_same
    P p f k zero xs (omega arith) (λ i y e lt. absurd (omega arith)) (λ i y e le. none (suc i) y e (omega arith)))
count_same {X} P p f k (suc n) (x ∷ xs) h same none =
    go (P x) (same 0 x refl (omega arith) ∙ ap (λ j. p j (f j)) (let t : k + 0 ≡ k = omega arith in t))
    (count_same P p f (suc k) n xs (omega arith) (λ i y e lt. same (suc i) y e (omega arith) ∙ ap (λ j. p j (f j))
    (let t : k + suc i ≡ suc k + i = omega arith in t)) (λ i y e le. none (suc i) y e (omega arith)))
  where
    go : (b : Bool) → b ≡ p k (f k) → count_marks p (suc k) (map f (numbers_from (suc k) n)) ≡ length (filter P xs)
        → cond (p k (f k)) 1 0 + count_marks
        p (suc k) (map f (numbers_from (suc k) n)) ≡ length (cond b (x ∷ filter P xs) (filter P xs))
    go true e rest = rw (← e) (let t : 1 + count_marks
        p (suc k) (map f (numbers_from (suc k) n)) ≡ suc (length (filter P xs)) = omega (arith, rest) in t)
    go false e rest = rw (← e) (let t : 0 + count_marks
        p (suc k) (map f (numbers_from (suc k) n)) ≡ length (filter P xs) = omega (arith, rest) in t)

-- the stable length of a unit
pub stable_length : (members : List Member) (u : ℕ)
    → slice_index (map (λ m. m.stable) members) u ≡ stable_of (slice_get members u)
stable_length [] u = refl
stable_length (m ∷ members) zero = refl
stable_length (m ∷ members) (suc u) = stable_length members u

module _ {S : Type 0} (M : Meaning S) (w : World) (g : Invariant M w) (x : ℕ) (h : x < length w.nodes) where
  -- a unit that was not there has no node in the past
  none_there : (u : ℕ) → (node_at w.nodes x).units ≤ u → list_any
      (λ y. (node_at w.nodes y).unit == u) (filter (λ y. not (is_stable w.members y)) (past w.nodes x)) ≡ false
  none_there u past_end = elim (bool_cases
      (list_any (λ y. (node_at w.nodes y).unit == u) (filter (λ y. not (is_stable w.members y)) (past w.nodes x)))) [
        | inr e ↦ e
        | inl e ↦ absurd (
            let a = any_at (λ y. (node_at w.nodes y).unit == u)
            (filter (λ y. not (is_stable w.members y)) (past w.nodes x)) e in
            let f = (filtered_at (λ y. not (is_stable w.members y)) (past w.nodes x) a.0 a.1.0 a.1.1).0 in
            let d = past_depends w.nodes x a.1.0 (at_has (past w.nodes x) f.0 a.1.0 f.1) in
            let p = past_unit M w g.chain g.opening g.counted g.numbered x a.1.0 h d in
            let own = eq_true (node_at w.nodes a.1.0).unit u a.1.2 in
            omega (arith, p, own))
      ]

module _ {S : Type 0} (M : Meaning S) where
  -- A node's vector counts as many unstable units as have an unstable node in its past.
  pub unstable_are_counted : UnstableAreCounted M
  unstable_are_counted w r x h =
      let g = reachable_invariant M r in
      let f = greatest_mark (past_nodes w.nodes x) in
      let n = (node_at w.nodes x).units in
      let within = units_within M w g x h in
      let unstable = filter (λ y. not (is_stable w.members y)) (past w.nodes x) in
      let P : Member → Bool = λ m. list_any (λ y. (node_at w.nodes y).unit == m.seat.unit) unstable in
      let same : (i : ℕ) (m : Member) → slice_get w.members i ≡ Some m
      → i < n → P m ≡ not (is_stable_by w.table (stable_lengths w) (0 + i) (f (0 + i))) = (λ i m e lt.
      let zero : 0 + i ≡ i = omega arith in
      rw zero (ap (λ u. list_any (λ y. (node_at w.nodes y).unit == u) unstable) ((g.chain.sound.units i m e).seated)
      ∙ unstable_by_vector M w r x i m h e
      ∙ ap (λ s. not (nat_lt (f i).index s && not (mark_lost w.table i (f i)))) (sym (stable_length w.members i)))) in (
        count_same P (λ u t. not (is_stable_by w.table (stable_lengths w) u t)) f 0 n w.members within same
            (λ i m e le. ap (λ u. list_any (λ y. (node_at w.nodes y).unit == u) unstable)
            ((g.chain.sound.units i m e).seated) ∙ none_there M w g x h i le),
        (let a = length-vector_of w.nodes x in
            let b = length-map w.members (λ (m : Member). m.stable) in omega (arith, a, b, within)),
      )

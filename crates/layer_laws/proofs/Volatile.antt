-- Volatile logs follow what becomes stable, and what is cut.
use Rattle.std.proofs.Common.{◌≡◌, refl, sym, ◌∙◌, ap, ℕ, suc, ◌+◌, ◌-◌, Bool, true, false, cond, min, List, [], ◌∷◌}
use Rattle.std.proofs.Common.{length, take, drop, arith, map, length-drop, length-take}
use Rattle.std.specs.Prelude.{Some, slice_get, nat_lt}
use Rattle.std.specs.List.{take_while}
use Rattle.std.proofs.lemmas.List.{drop-drop, drop-map, drop-take, drop_all, drop_min, length-map, take_all}
use native.Mathlib.Decide.{dec_le}
use Rattle.std.proofs.lemmas.List.Sums.{take_while-cons}
use Rattle.std.proofs.lemmas.Bool.Decides.{nat_tests}
use Rattle.model.specs.declared.records.Record.{Record}
use Rattle.model.specs.Handler.{Meaning}
use Rattle.model.specs.Nodes.{node_at}
use Rattle.model.specs.Records.{record_of}
use Rattle.theory.proofs.ListLaws.{get_drop}
use Rattle.theory.proofs.Certificate.{reachable_invariant}
use Rattle.layer_laws.specs.Laws.{VolatileLogsFollow}
use Rattle.layer_laws.proofs.Fronts.{same_front}

-- those below an index, where indices go up by one
below_taken : (index : ℕ → ℕ) (i : ℕ) (ys : List ℕ) (s : ℕ) → ((j y : ℕ) → slice_get ys j ≡ Some y → index y ≡ s + j)
    → take_while (λ y. nat_lt (index y) i) ys ≡ take (i - s) ys
below_taken index i [] s h = sym (take_all (i - s) [] (omega arith))
below_taken index i (y ∷ ys) s h =
    take_while-cons (λ y. nat_lt (index y) i) y ys
    ∙ go (nat_lt (index y) i) refl
    (below_taken index i ys (suc s) (λ j z e. h (suc j) z e ∙ (let t : s + suc j ≡ suc s + j = omega arith in t)))
  where
    at : index y ≡ s
    at = h 0 y refl ∙ (let t : s + 0 ≡ s = omega arith in t)

    go : (b : Bool) → nat_lt (index y) i ≡ b → take_while (λ y. nat_lt (index y) i) ys ≡ take (i - suc s) ys
        → cond b (y ∷ take_while (λ y. nat_lt (index y) i) ys) [] ≡ take (i - s) (y ∷ ys)
    go true q rest =
        let is = at in
        let more : i - s ≡ suc (i - suc s) = grind (arith, nat_tests) in
        rw more (ap (λ r. y ∷ r) rest)
    go false q rest = let is = at in let none : i - s ≡ 0 = grind (arith, nat_tests) in rw none refl

-- a front of what is behind is what is behind of a front
take_behind : (i s : ℕ) (xs : List ℕ) → take (i - s) (drop s xs) ≡ drop (min s (length (take i xs))) (take i xs)
take_behind i s xs = elim (dec_le s i) [
  | yes h ↦ let t : s + (i - s) ≡ i = omega arith in
      sym (drop_min s (take i xs) ∙ ap (λ n. drop s (take n xs)) (sym t) ∙ drop-take s (i - s) xs)
  | no h ↦ let none : i - s ≡ 0 = omega arith in let long = length-take i xs in
      rw none (sym (drop_min s (take i xs) ∙ drop_all s (take i xs) (omega (arith, long, h))))
]

module _ {S : Type 0} (M : Meaning S) where
  -- A unit's volatile log follows what flushes, going back and kills make of the unit.
  pub volatile_logs_follow : VolatileLogsFollow M
  volatile_logs_follow w r u m found name =
      let s = (reachable_invariant M r).chain.sound.units u m found in
      let index : ℕ → ℕ = λ x. (node_at w.nodes x).index in
      record {
        logged = λ k. drop-map (record_of M name w) k (drop m.stable m.path)
            ∙ ap (map (record_of M name w)) (drop-drop k m.stable m.path);
        cut = λ i known.
            same_front (λ x. nat_lt (index x) i)
            (λ (q : Record). nat_lt q.mark.index i) (record_of M name w) (drop m.stable m.path) (λ j x e. refl)
            ∙ ap (map (record_of M name w))
            (below_taken index i
            (drop m.stable m.path) m.stable (λ j x e. s.indexed (m.stable + j) x (get_drop m.path m.stable j x e))
            ∙ take_behind i m.stable m.path);
        cleared = ap (map (record_of M name w))
            (drop_all m.stable (take m.stable m.path) (let t = length-take m.stable m.path in omega (arith, t)));
        lost = length-map (drop m.stable m.path) (record_of M name w) ∙ length-drop m.stable m.path;
      }

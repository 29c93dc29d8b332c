-- Receipts and their turns.
use Rattle.std.proofs.Common.{◌≡◌, sym, ◌∙◌, ap, ℕ, ◌+◌, ◌-◌, cond, List, [], ◌∷◌, ◌++◌, length, arith, map}
use Rattle.std.proofs.Common.{length-append}
use Rattle.std.specs.Prelude.{Some, slice_get, slice_index_or}
use Rattle.std.proofs.lemmas.Option.{get_or_from_slice_get}
use Rattle.theory.proofs.ListLaws.{at_map}
use Rattle.model.specs.Handler.{Meaning}
use Rattle.handler.specs.Inputs.{Input, turn_upon_input}
use Rattle.compact.specs.Compact.{Compact, Interval, Progress, CompactUnit}
use Rattle.compact.specs.Laws.{replayed_one}
use Rattle.compact.specs.Steps.{Receipt, last_vector, next_record, next_vector, no_letter, receiving_unit}
use Rattle.rollback.specs.Units.{Recovering, IsKept, places, took}
use Rattle.rollback_laws.specs.Seen.{IsSeen}
use Rattle.rollback_laws.specs.Laws.{LastVectorsAreSeen, MarksAreSeen, ReceiptsAreSeen, TurnsAreSeen}
use Rattle.rollback_laws.proofs.Lists.{mapped, still_some}
use Rattle.rollback_laws.proofs.Places.{places_are, some_stable, stable_is}

module _ {S : Type 0} (M : Meaning S) (r : Recovering S) (x : CompactUnit S) (k : IsKept r) (s : IsSeen r x) where
  module _ (name : List ℕ) (c : Compact S) (u : ℕ) (q : Receipt) where
    took_stable : x.stable ≡ (r.base + length (r.intervals ++ record {
      vector = next_vector c u x q;
      letter = q.letter;
    } ∷ [])) - length (r.volatile ++ next_record name c u x q ∷ [])
    took_stable =
        let a = length-append r.intervals (record { vector = next_vector c u x q; letter = q.letter } ∷ []) in
        let b = length-append r.volatile (next_record name c u x q ∷ []) in
        let d = stable_is r x k s in
        let e = some_stable r x k s in
        omega (arith, a, b, d, e)

    receipt_seen : IsSeen (took M r (next_record name c u x q)) (receiving_unit M name c u q x)
    receipt_seen = record {
      seat = s.seat;
      up = s.up ∙ still_some (λ p. replayed_one M r.seat p (next_record name c u x q)) r.progress;
      now = λ p e. ap (λ seat. replayed_one M seat x.now (next_record name c u x q)) s.seat
          ∙ mapped (λ p. replayed_one M r.seat p (next_record name c u x q)) r.progress x.now s.now p e;
      stable = took_stable;
      outside = ap (λ n. n + cond (no_letter q.letter) 1 0) s.outside;
      base = s.base;
      shelf = s.shelf;
      intervals = ap (λ xs. xs ++ record { vector = next_vector c u x q; letter = q.letter } ∷ []) s.intervals;
      volatile = ap (λ rs. rs ++ next_record name c u x q ∷ []) s.volatile;
    }

  last_seen : (index : ℕ) → index + 1 ≡ places r
      → (i : Interval) → slice_get r.intervals (index - r.base) ≡ Some i → i.vector ≡ last_vector x
  last_seen index last i e =
      let h : index + 1 ≡ r.base + length r.intervals = last in
      let c = some_stable r x k s in
      let at : index - r.base ≡ length r.intervals - 1 = omega (arith, h, c) in
      let there : slice_get r.intervals (length r.intervals - 1) ≡ Some i = ap (slice_get r.intervals) (sym at) ∙ e in
      sym ((λ j. slice_index_or (map (λ (v : Interval). v.vector) (s.intervals j)) (length (s.intervals j) - 1) [])
      ∙ get_or_from_slice_get (map (λ (v : Interval). v.vector) r.intervals) (length r.intervals - 1) i.vector []
      (at_map (λ (v : Interval). v.vector) r.intervals (length r.intervals - 1) i there))

module _ {S : Type 0} (M : Meaning S) where
  -- A recovery unit that takes a receipt's record keeps the compact unit that receives it.
  pub receipts_are_seen : ReceiptsAreSeen M
  receipts_are_seen r x k s name c u q = receipt_seen M r x k s name c u q

  -- The record of a receipt bears the index of the recovery unit's next place.
  pub marks_are_seen : MarksAreSeen M
  marks_are_seen r x k s name c u q = places_are r x k s

  -- The vector at a recovery unit's last place is the compact unit's last vector.
  pub last_vectors_are_seen : LastVectorsAreSeen M
  last_vectors_are_seen r x k s index last i e = last_seen M r x k s index last i e

  -- The turn that a recovery unit asks for upon a receipt is the compact unit's upon it.
  pub turns_are_seen : TurnsAreSeen M
  turns_are_seen r x s q input e =
      let f : Progress S → Input S = λ p. record { seat = r.seat; state = p.state; source = q.source; text = q.text } in
      let is : f x.now ≡ input = mapped f r.progress x.now s.now input e in
      ap (turn_upon_input M) (sym is) ∙ ap (λ seat. M.handle seat x.now.state q.source q.text) (sym s.seat)

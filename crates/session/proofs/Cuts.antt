-- Laws of counts that are cut back.
use Rattle.std.proofs.Common.{◌≡◌, sym, ◌∙◌, ap, ℕ, zero, suc, ◌+◌, ◌-◌, ◌<◌, ◌≤◌, List, [], ◌∷◌, ◌++◌, length, take}
use Rattle.std.proofs.Common.{drop, set, get_or, arith, add-one, length-append}
use Rattle.model.specs.Lists.{padded}
use Rattle.std.proofs.lemmas.List.{length-replicate}
use Rattle.std.proofs.lemmas.Grind.{common_steps}
use Rattle.theory.proofs.ListLaws.{get_or_padded}
use Rattle.session.specs.declared.exchange.Exchange.{Exchange}
use Rattle.session.specs.Counts.{nothing}

padded_long : (earlier : List Exchange) (n : ℕ) → length earlier ≤ n → length (padded nothing earlier n) ≡ n
padded_long earlier n k = grind (arith, length-append, length-replicate)

written : (a b : List Exchange) (i : ℕ) (x : Exchange) → length a ≡ length b
    → i < length a → x ≡ get_or a i nothing → set (take i a ++ drop i b) i x ≡ take (suc i) a ++ drop (suc i) b
written [] b i x h lt e = absurd (omega arith)
written (y ∷ a) [] i x h lt e = absurd (omega arith)
written (y ∷ a) (z ∷ b) zero x h lt e = ap (λ (o : Exchange). o ∷ b) e
written (y ∷ a) (z ∷ b) (suc i) x h lt e = ap (λ r. y ∷ r) (written a b i x (omega arith) (omega arith) e)

-- one more entry is written
pub cut_step : (earlier old now : List Exchange) (i : ℕ)
    → length earlier ≤ length old → i < length old → now ≡ take i (padded nothing earlier (length old)) ++ drop i old
    → set now i (get_or earlier i nothing) ≡ take (i + 1) (padded nothing earlier (length old)) ++ drop (i + 1) old
cut_step earlier old now i h k is = rw (add-one i, is) (written (padded nothing earlier (length old))
    old i _ long (omega (arith, k, long)) (sym (get_or_padded earlier nothing (length old - length earlier) i)))
  where
    long : length (padded nothing earlier (length old)) ≡ length old
    long = padded_long earlier (length old) h

-- all are written
pub cut_done : (earlier old now : List Exchange) (i : ℕ) → length earlier ≤ length old → length old ≤ i
    → now ≡ take i (padded nothing earlier (length old)) ++ drop i old → now ≡ padded nothing earlier (length old)
cut_done earlier old now i k h is = is ∙ grind (arith, common_steps, padded_long earlier (length old) k)

-- Outputs that leave.
use Rattle.std.proofs.Common.{◌≡◌, refl, sym, ◌∙◌, ap, ℕ, zero, suc, ◌+◌, ◌<◌, ◌≤◌, true, false, cond, List, [], ◌∷◌}
use Rattle.std.proofs.Common.{◌++◌, length, drop, map, arith}
use Rattle.std.specs.Prelude.{Some, nat_lt, slice_get}
use Rattle.std.proofs.lemmas.List.{append-nil, append_assoc}
use Rattle.std.proofs.lemmas.List.Sums.{take_while-cons}
use Rattle.std.proofs.lemmas.Option.{same_Some}
use Rattle.theory.proofs.ListLaws.{true_lt, false_lt}
use Rattle.output_commit.specs.declared.held.Held.{Held}
use Rattle.output_commit.specs.Holds.{held_below, first_is_firm}
use Rattle.tenant.specs.Kept.{AreMoved, firm_texts, unfirm}

-- the first of them is firm
below_one : (f : ℕ) (o : Held) (left : List Held)
    → nat_lt o.mark.index f ≡ true → held_below (o ∷ left) f ≡ o ∷ held_below left f
below_one f o left e = take_while-cons (λ (h : Held). nat_lt h.mark.index f) o left
    ∙ ap (λ b. cond b (o ∷ held_below left f) []) e

-- or not
below_none : (f : ℕ) (o : Held) (left : List Held) → nat_lt o.mark.index f ≡ false → held_below (o ∷ left) f ≡ []
below_none f o left e = take_while-cons (λ (h : Held). nat_lt h.mark.index f) o left
    ∙ ap (λ b. cond b (o ∷ held_below left f) []) e

-- the first one left
pub moved_one : (f : ℕ) (outputs : List Held) (o : Held) (left : List Held) (texts more : List (List ℕ))
    → outputs ≡ o ∷ left → first_is_firm f outputs ≡ true
    → more ≡ texts ++ o.text ∷ [] → AreMoved f outputs texts left more
moved_one f outputs o left texts more is firm e =
    let first : nat_lt o.mark.index f ≡ true = ap (first_is_firm f) (sym is) ∙ firm in
    let front : held_below outputs f ≡ o ∷ held_below left f =
    ap (λ os. held_below os f) is ∙ below_one f o left first in
    record {
      all = ap (λ ts. ts ++ firm_texts left f) e ∙ append_assoc texts (o.text ∷ []) (firm_texts left f)
          ∙ ap (λ os. texts ++ map (λ (h : Held). h.text) os) (sym front);
      rest = sym (λ i. drop (length (front i)) (is i));
    }

-- and others after it
pub moved_on : (f : ℕ) (a b c : List Held) (t u v : List (List ℕ))
    → AreMoved f a t b u → AreMoved f b u c v → AreMoved f a t c v
moved_on f a b c t u v m n = record { all = n.all ∙ m.all; rest = n.rest ∙ m.rest }

none_below : (f : ℕ) (left : List Held) → first_is_firm f left ≡ false → held_below left f ≡ []
none_below f [] e = refl
none_below f (o ∷ left) e = below_none f o left e

-- until none is firm
pub all_moved : (f : ℕ) (outputs left : List Held) (texts more : List (List ℕ)) → AreMoved f outputs texts left more
    → first_is_firm f left ≡ false → (left ≡ unfirm outputs f) × (more ≡ texts ++ firm_texts outputs f)
all_moved f outputs left texts more m e =
    let none = none_below f left e in (
      ap (λ (os : List Held). drop (length os) left) (sym none) ∙ m.rest,
      sym (append-nil more) ∙ ap (λ (os : List Held). more ++ map (λ (h : Held). h.text) os) (sym none) ∙ m.all,
    )

-- where none is left, none is firm
pub none_firm : (f : ℕ) (left : List Held) → length left ≡ 0 → first_is_firm f left ≡ false
none_firm f [] e = refl
none_firm f (o ∷ left) e = absurd (cc e)

-- ---- the texts at the front, one by one

dropped : (outputs : List Held) (i : ℕ) (o : Held)
    → slice_get outputs i ≡ Some o → drop i outputs ≡ o ∷ drop (suc i) outputs
dropped [] i o e = absurd (cc e)
dropped (p ∷ outputs) zero o e = ap (λ q. q ∷ outputs) (same_Some p o e)
dropped (p ∷ outputs) (suc i) o e = dropped outputs i o e

-- the next one is firm
pub firm_next : (f : ℕ) (outputs : List Held) (i : ℕ) (o : Held) → slice_get outputs i ≡ Some o
    → o.mark.index < f → firm_texts (drop i outputs) f ≡ o.text ∷ firm_texts (drop (i + 1) outputs) f
firm_next f outputs i o e h =
    let next : suc i ≡ i + 1 = omega arith in
    ap (λ os. firm_texts os f) (dropped outputs i o e)
    ∙ ap (λ (os : List Held). map
    (λ (h : Held). h.text) os) (below_one f o (drop (suc i) outputs) (true_lt o.mark.index f h))
    ∙ ap (λ (n : ℕ). o.text ∷ firm_texts (drop n outputs) f) next

-- or not
pub firm_end : (f : ℕ) (outputs : List Held) (i : ℕ) (o : Held)
    → slice_get outputs i ≡ Some o → f ≤ o.mark.index → firm_texts (drop i outputs) f ≡ []
firm_end f outputs i o e h =
    ap (λ os. firm_texts os f) (dropped outputs i o e)
    ∙ ap (λ (os : List Held). map
    (λ (h : Held). h.text) os) (below_none f o (drop (suc i) outputs) (false_lt o.mark.index f h))

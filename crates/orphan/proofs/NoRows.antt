-- What holds where a table has no rows.
use Rattle.std.proofs.Common.{◌≡◌, refl, ap, sym, ◌∙◌, ◌≤◌, ◌&&◌, bit_or, arith, ℕ, zero, suc, ◌||◌, Bool, true, false}
use Rattle.std.proofs.Common.{List, [], ◌∷◌, not, ◌==◌}
use Rattle.std.specs.List.{list_any}
use Rattle.std.proofs.lemmas.Nat.{le_or_l}
use Rattle.model.specs.declared.names.Mark.{Mark}
use Rattle.model.specs.World.{mark_told, mark_lost}
use Rattle.theory.specs.Laws.{any_mark}
use Rattle.orphan.specs.Tests.{is_blind_by, is_orphan_by}

none_lost_from : (u : ℕ) (marks : List Mark) → any_mark (mark_lost []) u marks ≡ false
none_lost_from u [] = refl
none_lost_from u (g ∷ marks) = none_lost_from (suc u) marks

-- no mark is lost
pub none_lost : (marks : List Mark) → is_orphan_by [] marks ≡ false
none_lost marks = none_lost_from 0 marks

or_else : (b x y : Bool) → x ≡ y → (not (b || false) || x) ≡ (not b || y)
or_else true x y e = e
or_else false x y e = refl

blind_from : (u : ℕ) (marks : List Mark)
    → any_mark (λ u g. not (mark_told [] u g)) u marks ≡ list_any (λ g. not (g.incarnation == 0)) marks
blind_from u [] = refl
blind_from u (g ∷ marks) = or_else (g.incarnation == 0) _ _ (blind_from (suc u) marks)

-- a mark is told of where it is of the first incarnation
pub blind_by_incarnation : (marks : List Mark) → is_blind_by [] marks ≡ list_any (λ g. not (g.incarnation == 0)) marks
blind_by_incarnation marks = blind_from 0 marks

-- two numbers have no bit where neither has one
none_in_both : (a b : ℕ) → (bit_or a b == 0) ≡ ((a == 0) && (b == 0))
none_in_both zero b = refl
none_in_both (suc a) b =
    let more : suc a ≤ bit_or (suc a) b = le_or_l (suc a) b in
    let some : (bit_or (suc a) b == 0) ≡ false = grind (arith, more) in
    let first : (suc a == 0) ≡ false = grind arith in
    some ∙ sym (ap (λ x. x && (b == 0)) first)

both : (p q x : Bool) → (p && not (not q || x)) ≡ ((p && q) && not x)
both false q x = refl
both true true x = refl
both true false x = refl

-- the bits so far, one more incarnation, and whether one is to come
pub bits_go_on : (a b : ℕ) (x : Bool) → ((a == 0) && not (not (b == 0) || x)) ≡ ((bit_or a b == 0) && not x)
bits_go_on a b x = both (a == 0) (b == 0) x ∙ sym (ap (λ p. p && not x) (none_in_both a b))

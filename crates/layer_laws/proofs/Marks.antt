-- The marks of joined vectors.
use Rattle.std.proofs.Common.{◌≡◌, inl, inr, refl, sym, ℕ, zero, suc, ◌≤◌, List, [], ◌∷◌, length, arith}
use Rattle.std.proofs.lemmas.Bool.Decides.{nat_tests}
use Rattle.model.specs.declared.names.Mark.{Mark}
use Rattle.model.specs.World.{greater_mark, mark_le, no_mark}
use Rattle.theory.proofs.ListLaws.{bool_cases}
use Rattle.depvector.specs.Vectors.{mark_for, joined}

same_mark : (a b : Mark) → a.incarnation ≡ b.incarnation → a.index ≡ b.index → a ≡ b
same_mark a b p q = λ i. record { incarnation = p i; index = q i }

-- nothing is before a beginning
greater_none : (m : Mark) → greater_mark m no_mark ≡ m
greater_none m = elim (bool_cases (mark_le m no_mark)) [
  | inl e ↦ let first : m.incarnation ≡ 0 = grind (arith, nat_tests) in
      let second : m.index ≡ 0 = grind (arith, nat_tests) in rw e (sym (same_mark m no_mark first second))
  | inr e ↦ rw e refl
]

-- the marks of a joined vector are the later ones of both
pub mark_for-joined : (own other : List Mark) (unit : ℕ) → length other ≤ length own
    → mark_for (joined own other) unit ≡ greater_mark (mark_for own unit) (mark_for other unit)
mark_for-joined own [] unit h = sym (greater_none (mark_for own unit))
mark_for-joined [] (y ∷ other) unit h = absurd (omega arith)
mark_for-joined (x ∷ own) (y ∷ other) zero h = refl
mark_for-joined (x ∷ own) (y ∷ other) (suc unit) h = mark_for-joined own other unit (omega arith)

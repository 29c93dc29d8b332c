-- What units gave up and released, as one list of pairs and as two lists.
use Rattle.std.proofs.Common.{◌≡◌, refl, sym, ◌∙◌, ap, ℕ, List, [], ◌∷◌, map, length, arith}
use Rattle.output_commit.specs.Holds.{Line}
use Rattle.tenant.specs.Kept.{gone_of, released_of}
use Rattle.snapshot.specs.Parts.{pairs_of}
use Rattle.snapshot.specs.Tenants.{lines_of}

-- The two lists of an outlet make its pairs.
pub lines_are : (lines : List Line) → lines_of (gone_of lines) (released_of lines) ≡ pairs_of lines
lines_are [] = refl
lines_are (l ∷ lines) = ap (λ ps. (l.gone, l.texts) ∷ ps) (lines_are lines)

-- They are equally long.
pub same_length : (lines : List Line) → length (gone_of lines) ≡ length (released_of lines)
same_length [] = refl
same_length (l ∷ lines) = let h = same_length lines in omega (arith, h)

firsts : (gone : List ℕ) (released : List (List (List ℕ))) → length gone ≡ length released
    → map (λ p. p.0) (lines_of gone released) ≡ gone
firsts [] released h = refl
firsts (n ∷ gone) [] h = absurd (omega (arith, h))
firsts (n ∷ gone) (texts ∷ released) h = ap (λ xs. n ∷ xs) (firsts gone released (omega (arith, h)))

seconds : (gone : List ℕ) (released : List (List (List ℕ))) → length gone ≡ length released
    → map (λ p. p.1) (lines_of gone released) ≡ released
seconds [] [] h = refl
seconds [] (texts ∷ released) h = absurd (omega (arith, h))
seconds (n ∷ gone) [] h = absurd (omega (arith, h))
seconds (n ∷ gone) (texts ∷ released) h = ap (λ xs. texts ∷ xs) (seconds gone released (omega (arith, h)))

first_pairs : (lines : List Line) → map (λ p. p.0) (pairs_of lines) ≡ gone_of lines
first_pairs [] = refl
first_pairs (l ∷ lines) = ap (λ xs. l.gone ∷ xs) (first_pairs lines)

second_pairs : (lines : List Line) → map (λ p. p.1) (pairs_of lines) ≡ released_of lines
second_pairs [] = refl
second_pairs (l ∷ lines) = ap (λ xs. l.texts ∷ xs) (second_pairs lines)

-- Two equally long lists that make an outlet's pairs are its lists.
pub lists_are : (gone : List ℕ) (released : List (List (List ℕ))) (lines : List Line)
    → length gone ≡ length released → lines_of gone released ≡ pairs_of lines
    → ◌≡◌ {A = List ℕ × List (List (List ℕ))} (gone, released) (gone_of lines, released_of lines)
lists_are gone released lines same e =
    let first = sym (firsts gone released same)
    ∙ ap (λ (ps : List (ℕ × List (List ℕ))). map (λ p. p.0) ps) e ∙ first_pairs lines in
    let second = sym (seconds gone released same)
    ∙ ap (λ (ps : List (ℕ × List (List ℕ))). map (λ p. p.1) ps) e ∙ second_pairs lines in
    λ i. (first i, second i)

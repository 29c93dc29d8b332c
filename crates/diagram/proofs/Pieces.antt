-- Escaped text, piece by piece.
use Rattle.std.proofs.Common.{◌≡◌, refl, ◌∙◌, ℕ, List, [], ◌∷◌, ◌++◌, false, inl, inr, arith}
use Rattle.std.proofs.lemmas.List.{append-nil}
use Rattle.std.proofs.lemmas.List.Elements.{All-push}
use Rattle.std.proofs.lemmas.List.Folds.{concat-append}
use Rattle.std.specs.Char.{encode_utf8}
use Rattle.std.specs.Prelude.{codes}
use lib.Utf8.{encode}
use Rattle.diagram.specs.Escaped.{IsEscaped, IsPiece, is_markup}

pub escaped-nil : IsEscaped []
escaped-nil = ([], refl, λ k d h. absurd (omega arith))

-- one more piece
pub escaped-more : (text piece : List ℕ) → IsEscaped text → IsPiece piece → IsEscaped (text ++ piece)
escaped-more text piece escaped one = (
  escaped.0 ++ piece ∷ [],
  concat-append escaped.0 (piece ∷ []) ∙ rw (escaped.1, append-nil piece) refl,
  All-push IsPiece escaped.0 piece escaped.2 one,
)

-- one more character that stands for itself
pub escaped-char : (text : List ℕ) (c : ℕ) → IsEscaped text → is_markup c ≡ false → IsEscaped (text ++ encode_utf8 c)
escaped-char text c escaped plain =
    escaped-more text (encode_utf8 c) escaped (inr (c ∷ [], append-nil (encode_utf8 c), (plain, tt)))

-- The reference that stands for an ampersand is a piece of escaped text.
pub IsPiece-ampersand : IsPiece (codes "&amp;")
IsPiece-ampersand = inl (2, omega arith, refl)

-- The reference that stands for a single quote is a piece of escaped text.
pub IsPiece-quote : IsPiece (codes "&#39;")
IsPiece-quote = inl (4, omega arith, refl)

-- The replacement character is a piece of escaped text.
pub IsPiece-replacement : IsPiece (239 ∷ 191 ∷ 189 ∷ [])
unfolding encode
IsPiece-replacement = inr (0xfffd ∷ [], refl, (refl, tt))

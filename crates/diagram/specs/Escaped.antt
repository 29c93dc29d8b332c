-- Text that XML, and HTML, read as characters alone: in an element, and in an attribute between quotes.
use Rattle.std.specs.Prelude.{◌≡◌, ◌==◌, ◌&&◌, ◌||◌, ◌⊎◌, not, nat_lt, ℕ, Bool, List, [], ◌∷◌, ◌++◌, codes}
use Rattle.std.specs.List.{All, Contains, concat}
use Rattle.std.specs.Str.{NoCharPasses}

-- what may stand for a character that may not stand as it is
abbrev pub references : List (List ℕ)
references = codes "&lt;" ∷ codes "&gt;" ∷ codes "&amp;" ∷ codes "&quot;" ∷ codes "&#39;" ∷ codes "&#13;" ∷ []

-- a control but tab and line feed, or one of the two that are no characters
abbrev pub is_forbidden : ℕ → Bool
is_forbidden c = (nat_lt c 32 && not (c == 9) && not (c == 10)) || (c == 0xfffe) || (c == 0xffff)

-- a quote, an ampersand, a bracket of a tag, or what is forbidden
abbrev pub is_markup : ℕ → Bool
is_markup c = (c == 34) || (c == 38) || (c == 39) || (c == 60) || (c == 62) || is_forbidden c

-- a reference, or characters none of which is markup
abbrev pub IsPiece : List ℕ → Type 0
IsPiece piece = Contains references piece ⊎ NoCharPasses is_markup piece

-- the text is such pieces, one behind the other: it has markup in references alone, and no forbidden character
abbrev pub IsEscaped : List ℕ → Type 0
IsEscaped text = (pieces : List (List ℕ)) × (concat pieces ≡ text) × All IsPiece pieces

-- a page grew by escaped text alone
abbrev pub GrewByText : List ℕ → List ℕ → Type 0
GrewByText before after = (added : List ℕ) × (after ≡ before ++ added) × IsEscaped added

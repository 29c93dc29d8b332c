-- The lines of an input, and what a reader of lines has read of one.
use Rattle.std.specs.Prelude.{◌≡◌, ◌≢◌, ◌<◌, ◌≤◌, ℕ, List, [], ◌∷◌, ◌++◌, length, All, Bool, true, false, ◌==◌}
use Rattle.std.specs.Prelude.{if◌then◌else◌, Option, Some, None, ⊤}
use Rattle.model.specs.declared.limits.TheConstants.{MAX_LINE_BYTES}

-- x goes before the first line
abbrev pub onto_first : ℕ → List (List ℕ) → List (List ℕ)
onto_first x [] = (x ∷ []) ∷ []
onto_first x (line ∷ lines) = (x ∷ line) ∷ lines

-- A line ends at a line feed. What follows the last one is a line where it isn't empty.
abbrev pub lines_of : List ℕ → List (List ℕ)
lines_of [] = []
lines_of (x ∷ xs) = if x == 10 then [] ∷ lines_of xs else onto_first x (lines_of xs)

-- bytes with no line feed
abbrev pub IsPart : List ℕ → Type 0
IsPart bytes = All (λ x. x ≢ 10) bytes

-- What is held of the line so far: all of it, or no more than that it is too long.
abbrev pub Holds : List ℕ → Bool → List ℕ → Type 0
Holds held false text = (held ≡ text) × (length text ≤ MAX_LINE_BYTES)
Holds held true text = MAX_LINE_BYTES < length text

-- The known bytes began with these lines, and what is left of them has the others.
abbrev pub LinesRead : Option (List ℕ) → Option (List ℕ) → List (List ℕ) → Type 0
LinesRead None new lines = ⊤
LinesRead (Some all) None lines = ⊥
LinesRead (Some all) (Some rest) lines =
    (lines_of all ≡ lines ++ lines_of rest) × ((read : List ℕ) × (all ≡ read ++ rest))

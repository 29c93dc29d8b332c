-- What one read of a line takes.
use Rattle.std.specs.Prelude.{◌≡◌, ◌<◌, ◌≤◌, length, ℕ, List, [], ◌∷◌, ◌++◌, Bool, Option}
use Rattle.std.specs.Io.KnownBytes.{Consumes, Keeps, IsAtEnd}
use Rattle.model.specs.declared.limits.TheConstants.{MAX_LINE_BYTES}
use Rattle.lines.specs.Lines.{IsPart, Holds, LinesRead}
use Rattle.lines.specs.declared.input.LineRead.{LineRead}
use Rattle.lines.specs.declared.input.LineRead.TheVariants.{Line, Long, End}
use Rattle.lines.specs.declared.part.Part.{Part}
use Rattle.lines.specs.declared.part.Part.TheVariants.{More, Ended, AtEnd}

-- whatever the line was so far, it now goes on with these bytes
abbrev pub LineGoesOn : List ℕ → Bool → List ℕ → Bool → List ℕ → Type 0
LineGoesOn held is_long held' is_long' bytes = (text : List ℕ) → Holds held is_long text
    → Holds held' is_long' (text ++ bytes)

-- a part of a line was taken, and no more of the input
abbrev pub TakesPart : Option (List ℕ) → Option (List ℕ) → Type 0
TakesPart old new = (bytes : List ℕ) × IsPart bytes × Consumes old new bytes

-- what one look at a reader took from it, and what is then held of the line
abbrev pub Takes : Part → Option (List ℕ) → Option (List ℕ) → List ℕ → Bool → List ℕ → Bool → Type 0
Takes More old new held is_long held' is_long' =
    (bytes : List ℕ) × IsPart bytes × Consumes old new bytes × LineGoesOn held is_long held' is_long' bytes
Takes (Ended ahead) old new held is_long held' is_long' =
    (bytes : List ℕ) × IsPart bytes × Consumes old new (bytes ++ 10 ∷ []) × LineGoesOn held is_long held' is_long' bytes
Takes AtEnd old new held is_long held' is_long' = IsAtEnd old × Keeps old new × (held' ≡ held) × (is_long' ≡ is_long)

-- What was heard, where held is the line. A line that is too long isn't held.
abbrev pub IsLineRead : LineRead → List ℕ → Option (List ℕ) → Option (List ℕ) → Type 0
IsLineRead Line held old new = (length held ≤ MAX_LINE_BYTES) × LinesRead old new (held ∷ [])
IsLineRead Long held old new = (text : List ℕ) × (MAX_LINE_BYTES < length text) × LinesRead old new (text ∷ [])
IsLineRead End held old new = IsAtEnd old × Keeps old new

-- What is kept of a line until it is answered, and what may be read of it.
use Rattle.std.specs.Prelude.{◌≡◌, ◌≤◌, ◌+◌, ◌-◌, ◌⊎◌, ℕ, List, [], ◌∷◌, take, drop, Bool, true, false}
use Rattle.std.specs.Prelude.{Result, Ok, Err, Some, slice_get}
use Rattle.model.specs.declared.steps.Step.{Step}
use Rattle.forms.specs.declared.fault.LineFault.{LineFault}
use Rattle.forms.specs.declared.fault.LineFault.TheVariants.{Bad, NoMemory}
use Rattle.lines.specs.Feeds.{IsReading, ReadingOf}
use Rattle.lines.specs.declared.input.LineRead.TheVariants.{Line}
use Rattle.shards.specs.declared.span.Span.{Span}
use Rattle.shards.specs.declared.span.Span.TheVariants.{Text, Not}

-- the text of a line that stands among these bytes, or why it gives no step
abbrev pub kept_in : List ℕ → Span → Result (List ℕ) LineFault
kept_in bytes (Text from to) = Ok (take (to - from) (drop from bytes))
kept_in bytes (Not fault) = Err fault

-- a line's text stands among so many bytes
abbrev pub StandsIn : ℕ → Span → Type 0
StandsIn count (Text from to) = (from ≤ to) × (to ≤ count)
StandsIn count (Not fault) = Unit {0}

-- Of a line its text is kept, unless there is no memory for it. One that is too long gives no step.
abbrev pub IsKept : Bool → List ℕ → Result (List ℕ) LineFault → Type 0
IsKept true held kept = kept ≡ Err Bad
IsKept false held kept = (kept ≡ Ok held) ⊎ (kept ≡ Err NoMemory)

-- what may be read of a line of which this is kept
abbrev pub IsReadingOf : Result (List ℕ) LineFault → Result Step LineFault → Type 0
IsReadingOf (Ok held) reading = IsReading Line held reading
IsReadingOf (Err fault) reading = reading ≡ Err fault

-- this may be read of the line at a place
abbrev pub IsReadAt : List (Result (List ℕ) LineFault) → ℕ → Result Step LineFault → Type 0
IsReadAt lines at reading =
    (kept : Result (List ℕ) LineFault) × (slice_get lines at ≡ Some kept) × IsReadingOf kept reading

-- these may be read of the lines from a place on
abbrev pub AreReadFrom : List (Result (List ℕ) LineFault) → ℕ → List (Result Step LineFault) → Type 0
AreReadFrom lines at [] = Unit {0}
AreReadFrom lines at (r ∷ readings) = IsReadAt lines at r × AreReadFrom lines (at + 1) readings

-- this is kept of each of these lines, and whatever may be read of that is a reading of the line
abbrev pub AreKept : List (List ℕ) → List (Result (List ℕ) LineFault) → Type 0
AreKept [] kept = kept ≡ []
AreKept (line ∷ lines) [] = ⊥
AreKept (line ∷ lines) (k ∷ kept) =
    ((reading : Result Step LineFault) → IsReadingOf k reading → ReadingOf line reading) × AreKept lines kept

-- What reading a feed gives.
use Rattle.std.specs.Prelude.{◌≡◌, ◌<◌, ℕ, List, [], ◌∷◌, length, Option, IfSome, Result, Err}
use Rattle.model.specs.declared.limits.TheConstants.{MAX_LINE_BYTES}
use Rattle.model.specs.declared.steps.Step.{Step}
use Rattle.forms.specs.Reading.{Gives, step_of_line}
use Rattle.forms.specs.declared.fault.LineFault.{LineFault}
use Rattle.forms.specs.declared.fault.LineFault.TheVariants.{Bad}
use Rattle.lines.specs.Lines.{lines_of}
use Rattle.lines.specs.Serving.{line_step}
use Rattle.lines.specs.declared.input.LineRead.{LineRead}
use Rattle.lines.specs.declared.input.LineRead.TheVariants.{Line, Long, End}

-- a line's step, or that it is none, or that there was no memory to read it; one that is too long is none whatever
-- memory there was
abbrev pub ReadingOf : List ℕ → Result Step LineFault → Type 0
ReadingOf line step = Gives (λ s. s) step (line_step line) × (MAX_LINE_BYTES < length line → step ≡ Err Bad)

-- so of each line
abbrev pub AreReadings : List (List ℕ) → List (Result Step LineFault) → Type 0
AreReadings [] found = found ≡ []
AreReadings (line ∷ lines) [] = ⊥
AreReadings (line ∷ lines) (step ∷ found) = ReadingOf line step × AreReadings lines found

-- the readings of all lines of an input
abbrev pub FeedOf : Option (List ℕ) → List (Result Step LineFault) → Type 0
FeedOf input found = IfSome input (λ all. AreReadings (lines_of all) found)

-- the reading of what was heard
abbrev pub IsReading : LineRead → List ℕ → Result Step LineFault → Type 0
IsReading Line held step = Gives (λ s. s) step (step_of_line held)
IsReading Long held step = step ≡ Err Bad
IsReading End held step = step ≡ Err Bad

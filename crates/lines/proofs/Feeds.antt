-- Reading a feed, one line after the other.
use Rattle.std.proofs.Common.{◌≢◌, arith, ℕ, List, [], ◌∷◌, ◌++◌, Option, Result, refl}
use Rattle.std.proofs.Common.{sym, subst}
use Rattle.model.specs.declared.steps.Step.{Step}
use Rattle.forms.specs.Reading.{Gives}
use Rattle.forms.specs.declared.fault.LineFault.{LineFault}
use Rattle.lines.specs.Lines.{LinesRead}
use Rattle.lines.specs.Parts.{IsLineRead}
use Rattle.lines.specs.Serving.{line_step}
use Rattle.lines.specs.Feeds.{AreReadings, IsReading, ReadingOf}
use Rattle.lines.specs.declared.input.LineRead.{LineRead}
use Rattle.lines.specs.declared.input.LineRead.TheVariants.{Line, Long, End}
use Rattle.lines.proofs.Parts.{LinesRead-more}
use Rattle.lines.proofs.Runs.{line_step-held, line_step-long}

-- one line more
pub AreReadings-more : (lines : List (List ℕ))
    (found : List (Result Step LineFault)) (line : List ℕ) (step : Result Step LineFault)
    → AreReadings lines found → ReadingOf line step → AreReadings (lines ++ line ∷ []) (found ++ step ∷ [])
AreReadings-more [] found line step p q = subst (λ f. AreReadings (line ∷ []) (f ++ step ∷ [])) (sym p) (q, refl)
AreReadings-more (l ∷ ls) [] line step p q = absurd p
AreReadings-more (l ∷ ls) (s ∷ found) line step p q = (p.0, AreReadings-more ls found line step p.1 q)

-- what was heard is a line, and what was read of it
pub heard_reading : (kind : LineRead) (held : List ℕ) (step : Result Step LineFault) (b c : Option (List ℕ))
    → kind ≢ End → IsLineRead kind held b c
    → IsReading kind held step → (line : List ℕ) × LinesRead b c (line ∷ []) × ReadingOf line step
heard_reading Line held step b c more heard is = (
  held,
  heard.1,
  (
    subst (Gives (λ s. s) step) (sym (line_step-held held heard.0)) is,
    λ long. absurd (omega (arith, heard.0, long)),
  ),
)
heard_reading Long held step b c more heard is = (
  heard.0,
  heard.2,
  (subst (λ s. Gives (λ x. x) s (line_step heard.0)) (sym is) (line_step-long heard.0 heard.1), λ long. is),
)
heard_reading End held step b c more heard is = absurd (more refl)

-- what was heard is one line more
pub feed_goes_on : (kind : LineRead) (held : List ℕ) (step : Result Step LineFault)
    (a b c : Option (List ℕ)) (lines : List (List ℕ)) (found : List (Result Step LineFault))
    → kind ≢ End → IsLineRead kind held b c → IsReading kind held step → LinesRead a b lines → AreReadings lines found
    → (lines' : List (List ℕ)) × LinesRead a c lines' × AreReadings lines' (found ++ step ∷ [])
feed_goes_on kind held step a b c lines found more heard is read so_far =
    let one = heard_reading kind held step b c more heard is in (
      lines ++ one.0 ∷ [],
      LinesRead-more a b c lines one.0 read one.1,
      AreReadings-more lines found one.0 step so_far one.2,
    )

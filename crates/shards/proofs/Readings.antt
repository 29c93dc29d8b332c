-- What is kept of lines, and what is read of that.
use Rattle.std.proofs.Common.{◌≡◌, ◌<◌, ◌+◌, ◌-◌, ℕ, suc, List, [], ◌∷◌, ◌++◌, length, map, get_or, take, drop, All}
use Rattle.std.proofs.Common.{cond, Bool}
use Rattle.std.proofs.Common.{true, false, Option}
use Rattle.std.proofs.Common.{refl, sym, ap, subst, ◌∙◌, inl, inr, arith}
use Rattle.std.specs.Prelude.{Some, Result, Ok, Err, is_err, is_ok, slice_get, option_map}
use Rattle.std.proofs.lemmas.List.{drop-append-le, length-drop, length-map, map-append, nil_from_length, take-append-le}
use Rattle.std.proofs.lemmas.List.Elements.{All-head, All-tail}
use Rattle.std.proofs.lemmas.Option.{same_Some, slice_get-get_or, slice_get-map}
use Rattle.model.specs.declared.steps.Step.{Step}
use Rattle.forms.specs.Reading.{Gives, step_of_line}
use Rattle.forms.specs.declared.fault.LineFault.{LineFault}
use Rattle.forms.specs.declared.fault.LineFault.TheVariants.{Bad, NoMemory}
use Rattle.lines.specs.Feeds.{AreReadings, IsReading, ReadingOf}
use Rattle.lines.specs.Lines.{LinesRead}
use Rattle.lines.specs.Parts.{IsLineRead}
use Rattle.lines.specs.Serving.{line_step}
use Rattle.lines.specs.declared.input.LineRead.TheVariants.{Line, Long}
use Rattle.lines.proofs.Runs.{line_step-held, line_step-long}
use Rattle.shards.specs.Blocks.{IsReadOr}
use Rattle.shards.specs.Kept.{AreKept, AreReadFrom, IsKept, IsReadAt, IsReadingOf, StandsIn, kept_in}
use Rattle.shards.specs.declared.span.Span.{Span}
use Rattle.shards.specs.declared.span.Span.TheVariants.{Text, Not}

-- Of one line more something is kept, whose readings are readings of the line.
pub AreKept-more : (lines : List (List ℕ)) (kept : List (Result (List ℕ) LineFault)) (line : List ℕ)
    (k : Result (List ℕ) LineFault) → AreKept lines kept
    → ((reading : Result Step LineFault) → IsReadingOf k reading → ReadingOf line reading)
    → AreKept (lines ++ line ∷ []) (kept ++ k ∷ [])
AreKept-more [] kept line k p q =
    subst (λ (ks : List (Result (List ℕ) LineFault)). AreKept (line ∷ []) (ks ++ k ∷ [])) (sym p) (q, refl)
AreKept-more (l ∷ ls) [] line k p q = absurd p
AreKept-more (l ∷ ls) (x ∷ xs) line k p q = (p.0, AreKept-more ls xs line k p.1 q)

-- What was heard is a line, and whatever may be read of what is kept of it is a reading of that line.
pub heard_kept : (is_long : Bool) (held : List ℕ) (kept : Result (List ℕ) LineFault) (b c : Option (List ℕ))
    → IsLineRead (cond is_long Long Line) held b c → IsKept is_long held kept
    → (line : List ℕ) × LinesRead b c (line ∷ [])
    × ((reading : Result Step LineFault) → IsReadingOf kept reading → ReadingOf line reading)
heard_kept true held kept b c heard is = (
  heard.0,
  heard.2,
  λ reading of.
      let bad : reading ≡ Err Bad = subst (λ k. IsReadingOf k reading) is of in
      (subst (λ r. Gives (λ x. x) r (line_step heard.0)) (sym bad) (line_step-long heard.0 heard.1), λ long. bad),
)
heard_kept false held kept b c heard (inl is) = (
  held,
  heard.1,
  λ reading of.
      let gives : Gives (λ s. s) reading (step_of_line held) = subst (λ k. IsReadingOf k reading) is of in (
        subst (Gives (λ s. s) reading) (sym (line_step-held held heard.0)) gives,
        λ long. absurd (omega (arith, heard.0, long)),
      ),
)
heard_kept false held kept b c heard (inr is) = (
  held,
  heard.1,
  λ reading of.
      let none : reading ≡ Err NoMemory = subst (λ k. IsReadingOf k reading) is of in (
        subst (λ r. Gives (λ x. x) r (line_step held)) (sym none) tt,
        λ long. absurd (omega (arith, heard.0, long)),
      ),
)

-- What is read of the next line goes behind what was read of those before it.
pub AreReadFrom-more : (lines : List (Result (List ℕ) LineFault)) (from at : ℕ)
    (readings : List (Result Step LineFault)) (reading : Result Step LineFault)
    → AreReadFrom lines from readings → from + length readings ≡ at → IsReadAt lines at reading
    → AreReadFrom lines from (readings ++ reading ∷ [])
AreReadFrom-more lines from at [] reading p e q =
    let here : at ≡ from = omega arith in
    (subst (λ n. IsReadAt lines n reading) here q, tt)
AreReadFrom-more lines from at (r ∷ readings) reading p e q =
    (p.0, AreReadFrom-more lines (from + 1) at readings reading p.1 (omega arith) q)

-- what is read behind a first line
AreReadFrom-behind : (k : Result (List ℕ) LineFault) (lines : List (Result (List ℕ) LineFault)) (from : ℕ)
    (readings : List (Result Step LineFault))
    → AreReadFrom (k ∷ lines) (from + 1) readings → AreReadFrom lines from readings
AreReadFrom-behind k lines from [] p = tt
AreReadFrom-behind k lines from (r ∷ readings) p =
    let e : from + 1 ≡ suc from = omega arith in
    let at : slice_get (k ∷ lines) (suc from) ≡ Some p.0.0 =
    subst (λ n. slice_get (k ∷ lines) n ≡ Some p.0.0) e p.0.1 in
    ((p.0.0, at, p.0.2), AreReadFrom-behind k lines (from + 1) readings p.1)

-- What is read of all lines that are kept are readings of those lines.
pub readings_are : (lines : List (List ℕ)) (kept : List (Result (List ℕ) LineFault))
    (readings : List (Result Step LineFault)) → AreKept lines kept → AreReadFrom kept 0 readings
    → length readings ≡ length kept → AreReadings lines readings
readings_are [] kept readings are read long = nil_from_length readings (long ∙ ap length are)
readings_are (l ∷ ls) [] readings are read long = absurd are
readings_are (l ∷ ls) (k ∷ ks) [] are read long = absurd (omega arith)
readings_are (l ∷ ls) (k ∷ ks) (r ∷ readings) are read long =
    let own : k ≡ read.0.0 = same_Some _ _ read.0.1 in (
      are.0 r (subst (λ x. IsReadingOf x r) (sym own) read.0.2),
      readings_are ls ks readings are.1 (AreReadFrom-behind k ks 0 readings read.1) (omega arith),
    )

-- no memory for a step
lost : (kept : Result (List ℕ) LineFault) (read reading : Result Step LineFault) (step : Step)
    → read ≡ Ok step → reading ≡ Err NoMemory → IsReadingOf kept read → IsReadingOf kept reading
lost (Ok held) read reading step was none is = subst (IsReading Line held) (sym none) tt
lost (Err fault) read reading step was none is = let no : Ok step ≡ Err fault = sym was ∙ is in absurd cc

-- Where memory for a line's step was missing, that may be read of the line too.
pub reading_or : (lines : List (Result (List ℕ) LineFault)) (at : ℕ) (read reading : Result Step LineFault)
    → IsReadAt lines at read → IsReadOr read reading → IsReadAt lines at reading
reading_or lines at read reading is (inl e) = subst (IsReadAt lines at) (sym e) is
reading_or lines at read reading is (inr (step, was, none)) =
    (is.0, is.1, lost is.0 read reading step was none is.2)

-- ---- where texts stand

-- What may be read of a line's text, or of why it has none, may be read of the line at its place.
pub read_at : (bytes : List ℕ) (spans : List Span) (lines : List (Result (List ℕ) LineFault)) (at : ℕ) (span : Span)
    (reading : Result Step LineFault) → map (kept_in bytes) spans ≡ lines → at < length lines
    → span ≡ get_or spans at span → IsReadingOf (kept_in bytes span) reading → IsReadAt lines at reading
read_at bytes spans lines at span reading is within own of =
    let there : at < length spans = subst (λ n. at < n)
    (ap length (sym is) ∙ length-map spans (kept_in bytes)) within in
    let here : slice_get spans at ≡ Some span = slice_get-get_or spans at span there ∙ ap Some (sym own) in (
      kept_in bytes span,
      ap (λ (l : List (Result (List ℕ) LineFault)). slice_get l at) (sym is)
          ∙ slice_get-map (kept_in bytes) spans at ∙ ap (option_map (kept_in bytes)) here,
      of,
    )

-- A line of which there is no more memory for what is read gives what is told of it.
pub unread_at : (bytes : List ℕ) (spans : List Span) (lines : List (Result (List ℕ) LineFault)) (at : ℕ) (span : Span)
    (from to : ℕ) → map (kept_in bytes) spans ≡ lines → at < length lines
    → span ≡ get_or spans at span → span ≡ Text from to → IsReadAt lines at (Err NoMemory)
unread_at bytes spans lines at span from to is within own text =
    read_at bytes spans lines at span (Err NoMemory) is within own
    (subst (λ s. IsReadingOf (kept_in bytes s) (Err NoMemory)) (sym text) tt)

-- A line that gives no step gives its fault.
pub fault_at : (bytes : List ℕ) (spans : List Span) (lines : List (Result (List ℕ) LineFault)) (at : ℕ) (span : Span)
    (fault : LineFault) → map (kept_in bytes) spans ≡ lines → at < length lines
    → span ≡ get_or spans at span → span ≡ Not fault → IsReadAt lines at (Err fault)
fault_at bytes spans lines at span fault is within own not =
    read_at bytes spans lines at span (Err fault) is within own
    (subst (λ s. IsReadingOf (kept_in bytes s) (Err fault)) (sym not) refl)

-- more bytes behind those where lines stand
kept_same : (bytes more : List ℕ) (spans : List Span) → All (StandsIn (length bytes)) spans
    → map (kept_in (bytes ++ more)) spans ≡ map (kept_in bytes) spans
kept_same bytes more [] all = refl
kept_same bytes more (Not fault ∷ spans) all =
    ap (λ (l : List (Result (List ℕ) LineFault)). Err fault ∷ l)
    (kept_same bytes more spans (All-tail (StandsIn (length bytes)) (Not fault) spans all))
kept_same bytes more (Text from to ∷ spans) all =
    let within = All-head (StandsIn (length bytes)) (Text from to) spans all in
    let dropped : drop from (bytes ++ more) ≡ drop from bytes ++ more =
    drop-append-le from bytes more (omega (arith, within.0, within.1)) in
    let taken : take (to - from) (drop from bytes ++ more) ≡ take (to - from) (drop from bytes) =
    take-append-le (to - from) (drop from bytes) more
    (omega (arith, within.0, within.1, length-drop from bytes)) in
    let text : kept_in (bytes ++ more) (Text from to) ≡ kept_in bytes (Text from to) =
    ap (λ (b : List ℕ). Ok (take (to - from) b)) dropped ∙ ap (λ (b : List ℕ). Ok b) taken in
    ap (λ (k : Result (List ℕ) LineFault). k ∷ map (kept_in (bytes ++ more)) spans) text
    ∙ ap (λ (l : List (Result (List ℕ) LineFault)). kept_in bytes (Text from to) ∷ l)
    (kept_same bytes more spans (All-tail (StandsIn (length bytes)) (Text from to) spans all))

-- A line that is kept goes behind the others.
pub kept_more : (bytes bytes' more : List ℕ) (spans spans' : List Span) (span : Span)
    (lines : List (Result (List ℕ) LineFault)) → bytes' ≡ bytes ++ more → All (StandsIn (length bytes)) spans
    → spans' ≡ spans ++ span ∷ [] → map (kept_in bytes) spans ≡ lines
    → map (kept_in bytes') spans' ≡ lines ++ kept_in bytes' span ∷ []
kept_more bytes bytes' more spans spans' span lines grown all pushed is =
    ap (map (kept_in bytes')) pushed
    ∙ map-append (kept_in bytes') spans (span ∷ [])
    ∙ ap (λ (l : List (Result (List ℕ) LineFault)). l ++ kept_in bytes' span ∷ [])
    (ap (λ (b : List ℕ). map (kept_in b) spans) grown ∙ kept_same bytes more spans all ∙ is)

-- ---- one reading after the other

-- What is read of a line is added where there is memory for it.
pub added : {E : Type 0} (r : Result Unit E) (found found' : List (Result Step LineFault))
    (read : Result Step LineFault) → found' ≡ cond (is_ok r) (found ++ read ∷ []) found
    → is_err r ≡ false → found' ≡ found ++ read ∷ []
added (Ok x) found found' read is good = is
added (Err e) found found' read is good = absurd cc

-- What was read of the lines up to a place goes on with what is read of the line there.
pub read_more : (lines : List (Result (List ℕ) LineFault)) (from at : ℕ)
    (found found' : List (Result Step LineFault)) (read : Result Step LineFault)
    → AreReadFrom lines from found → from + length found ≡ at → IsReadAt lines at read → found' ≡ found ++ read ∷ []
    → AreReadFrom lines from found'
read_more lines from at found found' read so count is grown =
    subst (AreReadFrom lines from) (sym grown) (AreReadFrom-more lines from at found read so count is)

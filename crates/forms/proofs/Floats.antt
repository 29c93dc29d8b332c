-- The value of a record has no float.
use Rattle.std.proofs.Common.{◌≡◌, List, [], ◌∷◌, false, Option, Some, None, refl, ℕ}
use Rattle.serde_json.specs.Written.{has_float, items_have_float}
use Rattle.forms.specs.Writing.{marks, record_data}
use Rattle.model.specs.declared.names.Mark.{Mark}
use Rattle.model.specs.declared.names.Source.{Source}
use Rattle.model.specs.declared.names.Source.TheVariants.{Outside, Unit as FromUnit}
use Rattle.model.specs.declared.records.Record.{Record}

-- no vector has a float
marks_plain : (ms : List Mark) → items_have_float (marks ms) ≡ false
marks_plain [] = refl
marks_plain (m ∷ ms) = marks_plain ms

-- no record has a float
pub has_float-record : (r : Record) → has_float (record_data r) ≡ false
has_float-record r = at r.source r.letter
  where
    at : (source : Source) (letter : Option ℕ)
        → has_float (record_data (record r { source = source; letter = letter })) ≡ false
    at Outside None = rw (marks_plain r.vector) refl
    at Outside (Some l) = rw (marks_plain r.vector) refl
    at (FromUnit u) None = rw (marks_plain r.vector) refl
    at (FromUnit u) (Some l) = rw (marks_plain r.vector) refl

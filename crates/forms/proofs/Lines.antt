-- The step of a line, from what `serde_json` says of its text.
use Rattle.std.proofs.Common.{◌≡◌, ℕ, List, Bool, true, false, cond, Some, None, refl, ap}
use Rattle.std.specs.Prelude.{IsUtf8}
use Rattle.std.specs.Str.{is_utf8}
use Rattle.std.proofs.lemmas.Str.{IsUtf8-from_is_utf8, is_utf8-from_IsUtf8}
use Rattle.serde_json.specs.Data.{Data}
use Rattle.serde_json.specs.Read.{read}
use Rattle.forms.specs.Reading.{◌>>=◌, step_of, step_of_line}

-- a line that reads as a value is the step that the value is
pub step_of_line-read : (line : List ℕ) (d : Data) → IsUtf8 line → read line ≡ Some d → step_of_line line ≡ step_of d
unfolding step_of_line
step_of_line-read line d text is = rw (is_utf8-from_IsUtf8 line text, is) refl

-- a line that reads as no value is no step
pub step_of_line-none : (line : List ℕ) → (IsUtf8 line → read line ≡ None) → step_of_line line ≡ None
unfolding step_of_line
step_of_line-none line none = at (is_utf8 line) refl
  where
    at : (b : Bool) → is_utf8 line ≡ b → cond b (read line >>= step_of) None ≡ None
    at true e = ap (λ r. r >>= step_of) (none (IsUtf8-from_is_utf8 line e))
    at false e = refl

-- How values are written as bytes, and read again.
use Rattle.std.specs.Prelude.{◌≡◌, IsTrue, ℕ, ◌<◌, ◌^◌, nat_lt, Bool, cond, List, [], ◌∷◌, ◌++◌, length, Option}
use Rattle.std.specs.Prelude.{None, Some}
use Rattle.std.specs.Int.{to_le_bytes, w64}
use Rattle.std.specs.Str.{IsUtf8}
use Rattle.model.specs.declared.names.Mark.{Mark}
use Rattle.model.specs.declared.names.Quota.{Quota}
use Rattle.model.specs.declared.names.Row.{Row}
use Rattle.model.specs.declared.names.Seat.{Seat}
use Rattle.model.specs.declared.names.Source.{Source}
use Rattle.model.specs.declared.names.Source.TheVariants.{Outside, Unit as FromUnit}
use Rattle.model.specs.declared.records.Record.{Record}
use Rattle.model.specs.Names.{is_tenant_name}

-- The bytes of a value, with what follows behind them. So the bytes of values one behind the other are one call in the
-- other.
abbrev pub Code : Type 0 → Type 0
Code A = A → List ℕ → List ℕ

-- The bytes of the value were appended.
abbrev pub Encodes : {A : Type 0} → Code A → A → List ℕ → List ℕ → Type 0
Encodes code x old new = (rest : List ℕ) → new ++ rest ≡ old ++ code x rest

-- Where what was left began with the bytes of a value that fits, it is this one, and what followed is left now.
abbrev pub Decodes : {A : Type 0} → Code A → (A → Type 0) → List ℕ → A → List ℕ → Type 0
Decodes {A} code fits old x new = (v : A) (rest : List ℕ) → fits v → old ≡ code v rest → (v ≡ x) × (rest ≡ new)

-- Where what was left began with the bytes of a value that fits, this is so.
abbrev pub Unless : {A : Type 0} → Code A → (A → Type 0) → List ℕ → Type 0 → Type 0
Unless {A} code fits old P = (v : A) (rest : List ℕ) → fits v → old ≡ code v rest → P

-- The same of a value that was added at the end of a list.
abbrev pub DecodesOnto : {A : Type 0} → Code A → (A → Type 0) → List ℕ → List A → List A → List ℕ → Type 0
DecodesOnto {A} code fits old before after new = (v : A) (rest : List ℕ)
    → fits v → old ≡ code v rest → (after ≡ before ++ v ∷ []) × (rest ≡ new)

-- ---- numbers

-- A number below 255 is one byte; any other is that byte and then eight, the low ones first.
unfoldable pub number_code : ℕ → List ℕ → List ℕ
number_code n rest = cond (nat_lt n 255) (n ∷ rest) (255 ∷ (to_le_bytes w64 n ++ rest))

abbrev pub byte_code : Code ℕ
byte_code n rest = n ∷ rest

-- 1 where it is so, else 0
abbrev pub bool_code : Code Bool
bool_code b rest = byte_code (cond b 1 0) rest

-- ---- several values

-- each item
abbrev pub each_code : {A : Type 0} → Code A → Code (List A)
each_code code [] rest = rest
each_code code (x ∷ xs) rest = code x (each_code code xs rest)

-- how many items there are, and each
abbrev pub list_code : {A : Type 0} → Code A → Code (List A)
list_code code xs rest = number_code (length xs) (each_code code xs rest)

abbrev pub AllFit : {A : Type 0} → (A → Type 0) → List A → Type 0
AllFit fits [] = Unit {0}
AllFit fits (x ∷ xs) = fits x × AllFit fits xs

abbrev pub FitEach : {A : Type 0} → (A → Type 0) → List A → Type 0
FitEach fits xs = AllFit fits xs × (length xs < 2 ^ 64)

-- 0, or 1 and the value
abbrev pub option_code : {A : Type 0} → Code A → Code (Option A)
option_code code None rest = 0 ∷ rest
option_code code (Some x) rest = 1 ∷ code x rest

abbrev pub FitsSome : {A : Type 0} → (A → Type 0) → Option A → Type 0
FitsSome fits None = Unit {0}
FitsSome fits (Some x) = fits x

-- one value and then another
abbrev pub pair_code : {A B : Type 0} → Code A → Code B → Code (A × B)
pair_code first second p rest = first p.0 (second p.1 rest)

-- bytes as they are, and how many
abbrev pub bytes_code : Code (List ℕ)
bytes_code bytes rest = number_code (length bytes) (bytes ++ rest)

-- they are a text's
abbrev pub FitsText : List ℕ → Type 0
FitsText bytes = IsUtf8 bytes × (length bytes < 2 ^ 64)

-- the same of so many values one behind the other
abbrev pub DecodesEach : {A : Type 0} → Code A → (A → Type 0) → ℕ → List ℕ → List A → List ℕ → Type 0
DecodesEach {A} code fits count old xs new = (vs : List A) (rest : List ℕ)
    → length vs ≡ count → AllFit fits vs → old ≡ each_code code vs rest → (vs ≡ xs) × (rest ≡ new)

abbrev pub UnlessEach : {A : Type 0} → Code A → (A → Type 0) → ℕ → List ℕ → Type 0 → Type 0
UnlessEach {A} code fits count old P = (vs : List A) (rest : List ℕ)
    → length vs ≡ count → AllFit fits vs → old ≡ each_code code vs rest → P

-- ---- names

abbrev pub mark_code : Code Mark
mark_code m rest = number_code m.incarnation (number_code m.index rest)

abbrev pub FitsMark : Mark → Type 0
FitsMark m = (m.incarnation < 2 ^ 32) × (m.index < 2 ^ 32)

abbrev pub row_code : Code Row
row_code r rest = byte_code r.unit (number_code r.incarnation (number_code r.start rest))

abbrev pub FitsRow : Row → Type 0
FitsRow r = (r.unit < 256) × (r.incarnation < 2 ^ 32) × (r.start < 2 ^ 64)

abbrev pub seat_code : Code Seat
seat_code s rest = byte_code s.unit (byte_code s.kind (byte_code s.home rest))

abbrev pub FitsSeat : Seat → Type 0
FitsSeat s = (s.unit < 256) × (s.kind < 256) × (s.home < 256)

abbrev pub quota_code : Code Quota
quota_code q rest = number_code q.volatile (number_code q.held (number_code q.letters rest))

abbrev pub FitsQuota : Quota → Type 0
FitsQuota q = (q.volatile < 2 ^ 32) × (q.held < 2 ^ 32) × (q.letters < 2 ^ 32)

-- the outside is no unit
abbrev pub unit_of : Source → Option ℕ
unit_of Outside = None
unit_of (FromUnit u) = Some u

abbrev pub source_code : Code Source
source_code s rest = option_code byte_code (unit_of s) rest

abbrev pub FitsSource : Source → Type 0
FitsSource s = FitsSome (λ u. u < 256) (unit_of s)

-- a tenant's name
abbrev pub FitsName : List ℕ → Type 0
FitsName name = IsTrue (is_tenant_name name) × FitsText name

-- ---- records

abbrev pub marks_code : Code (List Mark)
marks_code marks rest = list_code mark_code marks rest

abbrev pub FitMarks : List Mark → Type 0
FitMarks marks = FitEach FitsMark marks

abbrev pub record_code : Code Record
record_code r rest =
    bytes_code r.tenant (byte_code r.unit (mark_code r.mark (source_code r.source (option_code number_code r.letter
    (number_code r.number (bytes_code r.text (marks_code r.vector rest)))))))

pub record FitsRecord (r : Record) : Type 0 where
  pub tenant : FitsName r.tenant
  pub unit : r.unit < 256
  pub mark : FitsMark r.mark
  pub source : FitsSource r.source
  pub letter : FitsSome (λ l. l < 2 ^ 32) r.letter
  pub number : r.number < 2 ^ 64
  pub text : FitsText r.text
  pub vector : FitMarks r.vector

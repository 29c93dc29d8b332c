-- How a table files its rows by unit.
use Rattle.std.specs.Prelude.{◌≡◌, ℕ, ◌+◌, ◌-◌, ◌<◌, ◌≤◌, Bool, false, cond, ◌||◌, ◌==◌, nat_lt, List, [], ◌∷◌, ◌++◌}
use Rattle.std.specs.Prelude.{length, Option, Some, None, slice_get, slice_index_or, map}
use Rattle.model.specs.declared.names.Mark.{Mark}
use Rattle.model.specs.declared.names.Row.{Row}
use Rattle.model.specs.World.{incarnation_of}
use Rattle.incarnation.specs.Rows.{rows_of}

-- the rows of one unit, and the places that they have in the table
pub record Filed : Type 0 where
  pub rows : List Row
  pub places : List ℕ

abbrev pub nothing_filed : Filed
nothing_filed = record { rows = []; places = [] }

-- the places of the unit's rows, where the first row has the place k
abbrev pub row_places_from : ℕ → List Row → ℕ → List ℕ
row_places_from k [] unit = []
row_places_from k (r ∷ rows) unit =
    cond (r.unit == unit) (k ∷ row_places_from (k + 1) rows unit) (row_places_from (k + 1) rows unit)

-- what is to be filed for a unit
abbrev pub filed_of : List Row → ℕ → Filed
filed_of rows unit = record { rows = rows_of rows unit; places = row_places_from 0 rows unit }

-- what is filed for a unit; nothing past the end
abbrev pub filed_at : List Filed → ℕ → Filed
filed_at files unit = slice_index_or files unit nothing_filed

-- what is filed for a unit once this row with this place is filed
abbrev pub with_row : Row → ℕ → ℕ → Filed → Filed
with_row r place unit f = cond (r.unit == unit) (record { rows = f.rows ++ r ∷ []; places = f.places ++ place ∷ [] }) f

-- a unit's rows begin the incarnations 1, 2 and so on
pub record Ordered (rows : List Row) : Type 0 where
  pub counted : (unit : ℕ) → incarnation_of rows unit ≡ length (rows_of rows unit)
  pub in_order : (unit j : ℕ) (r : Row) → slice_get (rows_of rows unit) j ≡ Some r → r.incarnation ≡ j + 1

-- the files hold the rows of each unit, which are in order
pub record Files (rows : List Row) (files : List Filed) : Type 0 where
  pub filed : (unit : ℕ) → filed_at files unit ≡ filed_of rows unit
  pub ordered : Ordered rows

-- the place is there, and before this one
abbrev pub place_below : ℕ → Option ℕ → Bool
place_below known None = false
place_below known (Some place) = nat_lt place known

-- the row of the mark's incarnation stands before this place; the first incarnation has none
abbrev pub is_told_by : Filed → ℕ → Mark → Bool
is_told_by f known mark = (mark.incarnation == 0) || place_below known (slice_get f.places (mark.incarnation - 1))

-- a row of a later incarnation than the mark's stands before this place and starts no later than the mark's index
pub record LosesAt (f : Filed) (known : ℕ) (mark : Mark) : Type 0 where
  pub at : ℕ
  pub row : Row
  pub place : ℕ
  pub later : mark.incarnation ≤ at
  pub has_row : slice_get f.rows at ≡ Some row
  pub has_place : slice_get f.places at ≡ Some place
  pub is_known : place < known
  pub starts : row.start ≤ mark.index

-- a unit's rows stand with their places, which rise, and their starts
pub record IsFiled (rows : List Row) (places : List ℕ) (starts : List ℕ) : Type 0 where
  pub long : length rows ≡ length places
  pub same : starts ≡ map (λ r. r.start) rows
  pub rising : (i j p q : ℕ) → i ≤ j → slice_get places i ≡ Some p → slice_get places j ≡ Some q → p ≤ q

-- What the look-ups over a list of rows give, beside those of `World` and `Laws`.
use Rattle.std.specs.Prelude.{ℕ, cond, ◌==◌, nat_le, max, List}
use Rattle.std.specs.List.{filter, fold}
use Rattle.model.specs.declared.names.Row.{Row}

-- the rows of one unit, in order
abbrev pub rows_of : List Row → ℕ → List Row
rows_of rows unit = filter (λ r. r.unit == unit) rows

-- the greater incarnation, where the row starts no later than the index
abbrev pub later_start : ℕ → ℕ → Row → ℕ
later_start index greatest r = cond (nat_le r.start index) (max greatest r.incarnation) greatest

-- the greatest incarnation of the unit that starts no later than the index, 0 where there is none
abbrev pub incarnation_at : List Row → ℕ → ℕ → ℕ
incarnation_at rows unit index = fold (later_start index) 0 (rows_of rows unit)

-- What a volatile log holds.
use Rattle.std.specs.Prelude.{ℕ, nat_lt, List}
use Rattle.std.specs.List.{take_while}
use Rattle.model.specs.declared.records.Record.{Record}

-- the records in order, and how many more can be pushed without a growth
pub record Log : Type 0 where
  pub records : List Record
  pub room : ℕ

-- the records at the front that are of intervals below the index
abbrev pub records_below : List Record → ℕ → List Record
records_below records index = take_while (λ r. nat_lt r.mark.index index) records

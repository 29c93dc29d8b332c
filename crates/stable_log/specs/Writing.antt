-- What a store that writes is seen as, and the lines that it writes.
use Rattle.std.specs.Prelude.{ℕ, ◌+◌, ◌-◌, ◌^◌, min, List, [], ◌∷◌, ◌++◌, Option, Bool}
use Rattle.forms.specs.Writing.{record_text}
use Rattle.model.specs.declared.records.Record.{Record}

-- a writer, how often it failed, and whether nothing is written any more
pub record Wired (W : Type 0) : Type 0 where
  pub writer : W
  pub failures : ℕ
  pub is_closed : Bool

-- the records that were acknowledged, with empty places for those that were forgotten, the writer, how often it failed,
-- and whether nothing is written any more
pub record Writing (W : Type 0) : Type 0 where
  pub records : List (Option Record)
  pub writer : W
  pub failures : ℕ
  pub is_closed : Bool

-- the line of a record, with the line feed at its end
abbrev pub log_line : Record → List ℕ
log_line r = record_text r ++ 10 ∷ []

-- one failure more, as far as 64 bits can count
abbrev pub one_more : ℕ → ℕ
one_more failures = min (failures + 1) (2 ^ 64 - 1)

-- What fails when it is told to, for tests.
use Rattle.std.specs.Prelude.{ℕ, List, Option, Bool, ◌==◌}
use Rattle.std.specs.List.{list_any}
use Rattle.model.specs.declared.records.Record.{Record}

-- a writer: what it took, and how many bytes more it takes
pub record Fuse : Type 0 where
  pub bytes : List ℕ
  pub left : ℕ

-- a store: its records, with empty places for those that were forgotten, the numbers of the appends
-- and of the fetches that fail, how many of each there were, and how often one failed
pub record Fused : Type 0 where
  pub records : List (Option Record)
  pub bad_appends : List ℕ
  pub bad_fetches : List ℕ
  pub appends : ℕ
  pub fetches : ℕ
  pub failures : ℕ

-- whether this number is one of those
abbrev pub is_one_of : ℕ → List ℕ → Bool
is_one_of n ns = list_any (λ m. m == n) ns

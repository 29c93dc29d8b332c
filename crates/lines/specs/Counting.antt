-- What a counted reader or writer is seen as.
use Rattle.std.specs.Prelude.{ℕ}

-- what is counted, how many of its calls failed, and how many more of them may be made
pub record Tally (T : Type 0) : Type 0 where
  pub inner : T
  pub failed : ℕ
  pub left : ℕ

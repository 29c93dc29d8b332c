-- Numbers among which the first low one is found.
use Rattle.std.specs.Prelude.{◌≡◌, ℕ, ◌+◌, ◌<◌, ◌≤◌, List, length, slice_index}

-- all from one place up to another are above the index
abbrev pub AllHigh : List ℕ → ℕ → ℕ → ℕ → Type 0
AllHigh xs index from to = (r : ℕ) → from ≤ r → r < to → index < slice_index xs r

-- the first place from here on that is not above the index, or one past the end
pub record IsFirstLow (xs : List ℕ) (index from at : ℕ) : Type 0 where
  pub after : from ≤ at
  pub high : AllHigh xs index from at
  pub low : at < length xs → slice_index xs at ≤ index

-- each low is below that many numbers, the last of which is at its place
abbrev pub AreLows : List ℕ → List ℕ → ℕ → Type 0
AreLows xs lows size = (e r : ℕ) → e < length lows → r ≤ e → e < r + size → slice_index lows e ≤ slice_index xs r

-- it is below the last so many numbers
abbrev pub IsBelowLast : List ℕ → ℕ → ℕ → Type 0
IsBelowLast xs low size = (r : ℕ) → r < length xs → length xs ≤ r + size → low ≤ slice_index xs r

-- one low for each number
pub record KeepsLows (xs lows : List ℕ) (size : ℕ) : Type 0 where
  pub long : length lows ≡ length xs
  pub are : AreLows xs lows size

-- lows for 16, 256 and 4096
pub record KeepsAll (xs of_16 of_256 of_4096 : List ℕ) : Type 0 where
  pub by_16 : KeepsLows xs of_16 16
  pub by_256 : KeepsLows xs of_256 256
  pub by_4096 : KeepsLows xs of_4096 4096

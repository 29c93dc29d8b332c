-- How many whole lines some bytes have, and where they end.
use Rattle.std.specs.Prelude.{◌≡◌, ◌≢◌, ◌⊎◌, ℕ, ◌==◌, List, [], ◌∷◌, ◌++◌, length, min, count_by, All, Option, Bool}
use Rattle.std.specs.Prelude.{true, false}
use Rattle.std.specs.Io.KnownBytes.{Consumes, IsAtEnd}
use Rattle.durable.specs.declared.measuring.Extent.{Extent}

-- how many lines end in these bytes
abbrev pub line_feeds : List ℕ → ℕ
line_feeds bytes = count_by (λ x. x == 10) bytes

-- no bytes, or whole lines
abbrev pub IsEnded : List ℕ → Type 0
IsEnded bytes = (bytes ≡ []) ⊎ ((front : List ℕ) × (bytes ≡ front ++ 10 ∷ []))

-- The bytes are so many bytes of whole lines and so many with no line feed, and so many lines end in them; the lines
-- before the one that is asked for, or all where there are fewer, take so many bytes.
pub record IsMeasured (all : List ℕ) (from : ℕ) (m : Extent) : Type 0 where
  pub lines : m.lines ≡ line_feeds all
  pub ends : (whole torn : List ℕ) × (all ≡ whole ++ torn) × (length whole ≡ m.whole) × (length torn ≡ m.torn)
      × IsEnded whole × All (λ x. x ≢ 10) torn
  pub first : (front back : List ℕ) × (all ≡ front ++ back) × (length front ≡ m.before)
      × (line_feeds front ≡ min from m.lines) × IsEnded front

-- more bytes were measured
abbrev pub Measures : ℕ → List ℕ → Extent → Extent → Type 0
Measures from bytes old new = (all : List ℕ) → IsMeasured all from old → IsMeasured (all ++ bytes) from new

-- the known bytes that are gone were measured
abbrev pub IsMeasuredOf : Option (List ℕ) → Option (List ℕ) → ℕ → Extent → Type 0
IsMeasuredOf old new from m = (bytes : List ℕ) × Consumes old new bytes × IsMeasured bytes from m

-- a block was measured, or none is left
abbrev pub MeasuresBlock : Option (List ℕ) → Option (List ℕ) → ℕ → Extent → Extent → Bool → Type 0
MeasuresBlock old new from m n true = IsAtEnd old × (n ≡ m)
MeasuresBlock old new from m n false = (bytes : List ℕ) × Consumes old new bytes × Measures from bytes m n

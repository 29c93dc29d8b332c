-- Bytes of which a beginning was written.
use Rattle.std.specs.Prelude.{◌≡◌, ℕ, List, ◌++◌, Option}
use Rattle.std.specs.Io.KnownBytes.{Appends}

-- bytes is a beginning of all
abbrev pub IsBeginning : List ℕ → List ℕ → Type 0
IsBeginning bytes all = (rest : List ℕ) × (all ≡ bytes ++ rest)

-- what is known grows by a beginning of all
abbrev pub AppendsBeginning : Option (List ℕ) → Option (List ℕ) → List ℕ → Type 0
AppendsBeginning old new all = (bytes : List ℕ) × Appends old new bytes × IsBeginning bytes all

-- What known bytes end with.
use Rattle.std.proofs.Common.{◌≡◌, ℕ, List, [], Option, Some, None, refl, sym, append-nil}
use Rattle.std.specs.Io.KnownBytes.{Appends}
use Rattle.durable.specs.Standing.{EndsWith}

-- what was appended is last
pub ends_with_grown : (a b : Option (List ℕ)) (bytes : List ℕ) → (a ≡ None → b ≡ None) → Appends a b bytes
    → EndsWith b bytes
ends_with_grown None None bytes steady p = tt
ends_with_grown None (Some y) bytes steady p = let e : Some y ≡ None = steady refl in cc
ends_with_grown (Some x) None bytes steady p = absurd p
ends_with_grown (Some x) (Some y) bytes steady p = (x, p)

-- all bytes end with none
pub ends_with_none : (a : Option (List ℕ)) → EndsWith a []
ends_with_none None = tt
ends_with_none (Some x) = (x, sym (append-nil x))

-- A history, parted by tenants.
use Rattle.std.specs.Prelude.{◌≡◌, ℕ, List, [], Option, Some, None, bytes_eq}
use Rattle.std.specs.Map.{lookup}
use Rattle.indexmap.specs.IndexMap.{IndexMap, get}
use Rattle.model.specs.declared.replies.Entry.{Entry}
use Rattle.book.specs.History.{entries_of}

-- the entries of a part, if there is one
abbrev pub part_of : Option (List Entry) → List Entry
part_of None = []
part_of (Some own) = own

-- the entries that a map has for the tenant
abbrev pub part_in : {X : Type 0} → IndexMap (List ℕ) (List Entry) X → List ℕ → List Entry
part_in map tenant = part_of (get bytes_eq map tenant)

-- the entries that a list of parts has for the tenant
abbrev pub part_at : List (List ℕ × List Entry) → List ℕ → List Entry
part_at parts tenant = part_of (lookup (bytes_eq tenant) parts)

-- any other tenant's part is as it was
abbrev pub AreOtherPartsSame : List ℕ → (List ℕ → List Entry) → (List ℕ → List Entry) → Type 0
AreOtherPartsSame own before after = (tenant : List ℕ) → (tenant ≡ own → ⊥) → after tenant ≡ before tenant

-- each tenant's part is its own entries of the history, in order
abbrev pub AreParts : List (List ℕ × List Entry) → List Entry → Type 0
AreParts parts history = (tenant : List ℕ) → part_at parts tenant ≡ entries_of tenant history

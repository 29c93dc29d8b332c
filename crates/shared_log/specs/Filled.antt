-- A log that is made anew of its live records.
use Rattle.std.specs.Prelude.{◌≡◌, ◌<◌, ◌-◌, ℕ, List, [], ◌∷◌, ◌++◌, Option, None, Some, All, Contains, length}
use Rattle.std.specs.Prelude.{replicate, slice_get, slice_set}
use Rattle.model.specs.declared.records.Record.{Record}

-- the records with each of these put into its place, in order
abbrev pub filled_in : List (ℕ × Record) → List (Option Record) → List (Option Record)
filled_in [] records = records
filled_in (pair ∷ pairs) records = filled_in pairs (slice_set records pair.0 (Some pair.1))

-- so many empty places with each of these put into its place, in order
abbrev pub filled : ℕ → List (ℕ × Record) → List (Option Record)
filled count pairs = filled_in pairs (replicate count None)

-- each of these is a live record of the list, with its place
abbrev pub AreLiveIn : List (Option Record) → List (ℕ × Record) → Type 0
AreLiveIn records pairs = All (λ pair. slice_get records pair.0 ≡ Some (Some pair.1)) pairs

-- each live record of the list is among these, with its place
abbrev pub HaveAllLive : List (Option Record) → List (ℕ × Record) → Type 0
HaveAllLive records pairs = (place : ℕ) (r : Record) → slice_get records place ≡ Some (Some r)
    → Contains pairs (place, r)

-- the place with its record, or nothing where it has none
abbrev pub pair_at : ℕ → Option (Option Record) → List (ℕ × Record)
pair_at place None = []
pair_at place (Some None) = []
pair_at place (Some (Some r)) = (place, r) ∷ []

-- these places, each with its record, but for those that have none
abbrev pub pairs_at : List (Option Record) → List ℕ → List (ℕ × Record)
pairs_at records [] = []
pairs_at records (place ∷ places) = pair_at place (slice_get records place) ++ pairs_at records places

-- each place of a live record of the list is among these
abbrev pub HaveAllLivePlaces : List (Option Record) → List ℕ → Type 0
HaveAllLivePlaces records places = (place : ℕ) (r : Record) → slice_get records place ≡ Some (Some r)
    → Contains places place

-- putting all live records of a list into as many empty places, in any order, gives the list
abbrev pub Refills : Type 0
Refills = (records : List (Option Record)) (pairs : List (ℕ × Record)) → AreLiveIn records pairs
    → HaveAllLive records pairs → filled (length records) pairs ≡ records

-- the record of the pair leaves this place to this record: it has another place, and a lower one where both are of one
-- unit
abbrev pub LeavesRoom : ℕ → Record → ℕ × Record → Type 0
LeavesRoom place r pair = (pair.0 ≡ place → ⊥)
    × (pair.1.tenant ≡ r.tenant → pair.1.unit ≡ r.unit → pair.0 < place)

-- the tenant of each live record of the list is among these
abbrev pub NamesAllTenants : List (Option Record) → List (List ℕ) → Type 0
NamesAllTenants records names = (place : ℕ) (r : Record) → slice_get records place ≡ Some (Some r)
    → Contains names r.tenant

-- the last of the places, if there is one, is below this one
abbrev pub IsPast : ℕ → List ℕ → Type 0
IsPast place places = (last : ℕ) → slice_get places (length places - 1) ≡ Some last → last < place

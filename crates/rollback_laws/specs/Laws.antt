-- What the calls of a recovery unit make of it is what the steps of a tenant make of the unit of the compact state that
-- it keeps.
use Rattle.std.specs.Prelude.{◌≡◌, ◌==◌, ℕ, ◌+◌, ◌-◌, ◌≤◌, true, false, List, [], drop, length, Option, Some}
use Rattle.std.specs.Prelude.{MatchOption, slice_get, option_map}
use Rattle.std.specs.List.{position, position_or_len}
use Rattle.model.specs.declared.names.Row.{Row}
use Rattle.model.specs.declared.names.Seat.{Seat}
use Rattle.model.specs.declared.records.Record.{Record}
use Rattle.model.specs.Handler.{Meaning}
use Rattle.model.specs.World.{World}
use Rattle.handler.specs.Inputs.{Input, turn_upon_input}
use Rattle.checkpoint.specs.Shelves.{has_index}
use Rattle.orphan.specs.Tests.{is_orphan_by}
use Rattle.compact.specs.Compact.{Compact, Interval, Progress, Snapshot, CompactUnit}
use Rattle.compact.specs.Steps.{Receipt, first_unit, fitted_unit, flushed_unit, going_on, kept_places, killed_unit}
use Rattle.compact.specs.Steps.{last_vector, next_record, places as all_of, receiving_unit, shelved_unit}
use Rattle.compact.specs.Steps.{turn_of_receipt}
use Rattle.compact.specs.StepLaws.{StandsCompact}
use Rattle.compact.specs.Forgetting.{rebased}
use Rattle.rollback.specs.Units.{Recovering, IsKept, IsTarget, asking, begun_unit, checkpointed, forgotten}
use Rattle.rollback.specs.Units.{killed_recovering, marked_stable, places, took, widened_to}
use Rattle.rollback_laws.specs.Seen.{BeginsAt, HasPlaces, IsClean, IsRead, IsReady, IsRestored, IsSeen}

-- ---- beginning and joins

abbrev pub BeginningsAreSeen : {S : Type 0} → Meaning S → Type 0
BeginningsAreSeen M = (width rows : ℕ) (seat : Seat) → IsSeen (begun_unit M width seat) (first_unit M width seat rows)

abbrev pub JoinsAreSeen : {S : Type 0} → Meaning S → Type 0
JoinsAreSeen {S} M = (r : Recovering S) (x : CompactUnit S) → IsSeen r x → (n : ℕ)
    → IsSeen (widened_to r n) (fitted_unit n x)

-- the same places
abbrev pub PlacesAreSeen : {S : Type 0} → Meaning S → Type 0
PlacesAreSeen {S} M = (r : Recovering S) (x : CompactUnit S) → IsKept r → IsSeen r x → HasPlaces r x

-- ---- kill and flush

abbrev pub KillsAreSeen : {S : Type 0} → Meaning S → Type 0
KillsAreSeen {S} M = (r : Recovering S) (x : CompactUnit S) → IsKept r → IsSeen r x
    → IsSeen (killed_recovering r) (killed_unit x)

abbrev pub FlushesAreSeen : {S : Type 0} → Meaning S → Type 0
FlushesAreSeen {S} M = (r : Recovering S) (x : CompactUnit S) → IsKept r → IsSeen r x → (place count : ℕ)
    → count ≤ length r.volatile → IsSeen (marked_stable r count) (flushed_unit place count x)

-- as its frontier goes on it is still seen
abbrev pub FrontiersAreSeen : {S : Type 0} → Meaning S → Type 0
FrontiersAreSeen {S} M = (r : Recovering S) (x : CompactUnit S) → IsSeen r x → (rows : List Row)
    (stable_lengths : List ℕ)
    → IsSeen r (going_on rows stable_lengths x)

-- ---- receipts

abbrev pub ReceiptsAreSeen : {S : Type 0} → Meaning S → Type 0
ReceiptsAreSeen {S} M = (r : Recovering S) (x : CompactUnit S) → IsKept r → IsSeen r x
    → (name : List ℕ) (k : Compact S) (u : ℕ) (q : Receipt)
    → IsSeen (took M r (next_record name k u x q)) (receiving_unit M name k u q x)

-- the record of a receipt is of the next place
abbrev pub MarksAreSeen : {S : Type 0} → Meaning S → Type 0
MarksAreSeen {S} M = (r : Recovering S) (x : CompactUnit S) → IsKept r → IsSeen r x
    → (name : List ℕ) (k : Compact S) (u : ℕ) (q : Receipt) → (next_record name k u x q).mark.index ≡ places r

-- the vector of the interval at the last place is the last one
abbrev pub LastVectorsAreSeen : {S : Type 0} → Meaning S → Type 0
LastVectorsAreSeen {S} M = (r : Recovering S) (x : CompactUnit S) → IsKept r → IsSeen r x → (index : ℕ)
    → index + 1 ≡ places r
    → (i : Interval) → slice_get r.intervals (index - r.base) ≡ Some i → i.vector ≡ last_vector x

-- a turn that is asked for upon a receipt is the receipt's
abbrev pub TurnsAreSeen : {S : Type 0} → Meaning S → Type 0
TurnsAreSeen {S} M = (r : Recovering S) (x : CompactUnit S) → IsSeen r x → (q : Receipt) (input : Input S)
    → asking r q.source q.text ≡ Some input → turn_upon_input M input ≡ turn_of_receipt M x q

-- ---- checkpoint

-- where all is stable; the first of the shelf may go
abbrev pub CheckpointsAreSeen : {S : Type 0} → Meaning S → Type 0
CheckpointsAreSeen {S} M = (r : Recovering S) (x : CompactUnit S) → IsKept r → IsSeen r x → r.volatile ≡ []
    → (p : Progress S) → r.progress ≡ Some p
    → (n : ℕ) × (n ≤ 1) × IsSeen (checkpointed r) (record (shelved_unit x) { shelf = drop n (shelved_unit x).shelf })

-- ---- what holds of a unit of a tenant

-- Where the compact state stands for a world, what the laws below ask for holds.
abbrev pub UnitsAreReady : {S : Type 0} → Meaning S → Type 0
UnitsAreReady {S} M = (name : List ℕ) (k : Compact S) (w : World) (log : List Record) → StandsCompact M name k w log
    → (u : ℕ) (x : CompactUnit S) → slice_get k.units u ≡ Some x → (r : Recovering S) → IsKept r → IsSeen r x
    → IsReady r k x

-- ---- orphans

-- Where no interval before the frontier is an orphan, as much is kept as comes before the first that is.
abbrev pub OrphansAreSeen : {S : Type 0} → Meaning S → Type 0
OrphansAreSeen {S} M = (r : Recovering S) (x : CompactUnit S) → IsKept r → IsSeen r x → (k : Compact S)
    → x.base.index ≤ x.frontier → x.frontier ≤ all_of x → IsClean r k x
    → kept_places k x ≡ r.base + position_or_len (λ v. is_orphan_by k.table v.vector) r.intervals

-- What the search for the first orphan finds is how much is kept, and where it finds none all is.
abbrev pub FirstOrphansAreSeen : {S : Type 0} → Meaning S → Type 0
FirstOrphansAreSeen {S} M = (r : Recovering S) (x : CompactUnit S) → IsKept r → IsSeen r x → (k : Compact S)
    → x.base.index ≤ x.frontier → x.frontier ≤ all_of x → IsClean r k x
    → (o : Option ℕ) → o ≡ option_map (λ i. r.base + i) (position (λ v. is_orphan_by k.table v.vector) r.intervals)
    → MatchOption o (kept_places k x ≡ all_of x) (λ first. kept_places k x ≡ first)

-- ---- going back

abbrev pub RestoresAreSeen : {S : Type 0} → Meaning S → Type 0
RestoresAreSeen {S} M = (r : Recovering S) (x : CompactUnit S) → IsKept r → IsSeen r x → (k : Compact S) (target : ℕ)
    → IsTarget r target → target + 1 ≡ kept_places k x
    → (s : Snapshot S) × BeginsAt r k x target s
    × ((log fetched : List Record) → length x.live ≡ x.stable - 1 - x.base.index → IsRead k x log s fetched
    → IsRestored M r k x log target fetched)

-- ---- forgetting

-- what the base moves to is of the shelf
abbrev pub ForgettingIsSeen : {S : Type 0} → Meaning S → Type 0
ForgettingIsSeen {S} M = (r : Recovering S) (x : CompactUnit S) → IsKept r → IsSeen r x → (base : ℕ)
    → has_index r.shelf base ≡ true → (base == r.base) ≡ false
    → (i : ℕ) × ((s : Snapshot S) × (slice_get x.shelf i ≡ Some s) × (s.index ≡ base)
    × IsSeen (forgotten r base) (rebased x i s))

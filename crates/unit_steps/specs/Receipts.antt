-- What the steps of a tenant compute at one unit, by what its recovery unit keeps.
use Rattle.std.specs.Prelude.{◌≡◌, ◌≤◌, ℕ, ◌+◌, ◌-◌, Bool, true, not, nat_lt, nat_le, List, [], ◌∷◌, ◌++◌, length, drop}
use Rattle.std.specs.Prelude.{take, map, slice_get, Option, Some, None, is_some, slice_set, slice_index_or}
use Rattle.model.specs.declared.limits.TheConstants.{MAX_INDEX}
use Rattle.model.specs.declared.names.Mark.{Mark}
use Rattle.model.specs.declared.names.Quota.{Quota}
use Rattle.model.specs.declared.names.Row.{Row}
use Rattle.model.specs.declared.names.Source.{Source}
use Rattle.model.specs.declared.names.Source.TheVariants.{Outside, Unit as FromUnit}
use Rattle.model.specs.declared.refusals.Refusal.{Refusal}
use Rattle.model.specs.declared.refusals.Refusal.TheVariants.{Down, Repeat, Limit, Quota as OverQuota, TooMuch}
use Rattle.model.specs.Handler.{Turn}
use Rattle.model.specs.Nodes.{sends_within}
use Rattle.model.specs.Steps.{first_refusal, is_large, is_long}
use Rattle.model.specs.World.{incarnation_of}
use Rattle.depvector.specs.Vectors.{joined, widened}
use Rattle.session.specs.Counts.{taken_from}
use Rattle.compact.specs.Compact.{Content, Interval, Progress}
use Rattle.compact.specs.Laws.{firm_front}
use Rattle.compact.specs.Steps.{or_next, tests_of_number, tests_of_past}
use Rattle.rollback.specs.Units.{Recovering, places, unknown}

-- ---- the tests of a receipt

-- whether the unit has room for one more receipt
abbrev pub receipt_room_tests : {S : Type 0} → ℕ → Recovering S → List ℕ → List (Bool × Refusal)
receipt_room_tests volatile_quota r text =
    (nat_le MAX_INDEX (places r - 1), Limit)
    ∷ (nat_le volatile_quota (length r.volatile), OverQuota)
    ∷ (is_long text, TooMuch)
    ∷ []

-- the refusal of a receipt by its number and for want of room, where this is the unit's progress
abbrev pub arrival_refusal : {S : Type 0} → ℕ → Recovering S → Source → ℕ → List ℕ → Option (Progress S)
    → Option Refusal
arrival_refusal volatile_quota r source number text None = Some Down
arrival_refusal volatile_quota r source number text (Some p) =
    first_refusal (tests_of_number (taken_from p.sessions source) number ++ receipt_room_tests volatile_quota r text)

-- the refusal of a post before its turn
abbrev pub post_refused : {S : Type 0} → ℕ → Recovering S → ℕ → List ℕ → Option Refusal
post_refused volatile_quota r number text = arrival_refusal volatile_quota r Outside number text r.progress

-- What a tenant's other units and its table tell a unit that knows so many rows.
pub record TenantView : Type 0 where
  pub table : List Row
  pub rows : ℕ
  pub stable_lengths : List ℕ

-- the tests of what a letter depends on
abbrev pub past_tests : {S : Type 0} → TenantView → ℕ → Recovering S → List Mark → List (Bool × Refusal)
past_tests known optimism r vector =
    tests_of_past (is_some r.progress) (take known.rows known.table) known.table known.stable_lengths optimism vector

-- the refusal of a letter before its turn; a forgotten one was taken
abbrev pub letter_refused : {S : Type 0} → TenantView → ℕ → ℕ → Recovering S → ℕ → Option Content → Option Refusal
letter_refused known optimism volatile_quota r source None =
    first_refusal ((not (is_some r.progress), Down) ∷ (true, Repeat) ∷ [])
letter_refused known optimism volatile_quota r source (Some content) =
    or_next (first_refusal (past_tests known optimism r content.vector))
    (arrival_refusal volatile_quota r (FromUnit source) content.number content.text r.progress)

-- the refusal of a receipt for what its turn makes, where so many outputs are held, letters made and units there
abbrev pub turn_refused : {S : Type 0} → Quota → ℕ → ℕ → ℕ → Turn S → Option Refusal
turn_refused quota held letters width turn = first_refusal (
    (is_large turn, TooMuch)
    ∷ (nat_lt quota.held (held + length turn.outputs), OverQuota)
    ∷ (nat_lt quota.letters (letters + length (sends_within width turn)), OverQuota)
    ∷ [])

-- a letter depends on no more than n units
abbrev pub IsWithin : ℕ → Option Content → Type 0
IsWithin n None = Unit {0}
IsWithin n (Some content) = length content.vector ≤ n

-- ---- what a receipt makes

-- the vector of the last interval
abbrev pub last_vector_of : {S : Type 0} → Recovering S → List Mark
last_vector_of r = (slice_index_or r.intervals (length r.intervals - 1) unknown).vector

-- the mark of the interval that a receipt makes
abbrev pub mark_upon : {S : Type 0} → List Row → ℕ → Recovering S → Mark
mark_upon table unit r = record { incarnation = incarnation_of table unit; index = places r }

-- its vector, in a tenant of so many units, where this is its mark
abbrev pub vector_marked : {S : Type 0} → ℕ → ℕ → Recovering S → Mark → List Mark → List Mark
vector_marked width unit r mark vector = slice_set (joined (widened (last_vector_of r) width) vector) unit mark

-- and where its mark is that of the table
abbrev pub vector_upon : {S : Type 0} → List Row → ℕ → ℕ → Recovering S → List Mark → List Mark
vector_upon table width unit r vector = vector_marked width unit r (mark_upon table unit r) vector

-- ---- frontiers

-- how many intervals at the front are firm, where so many were
abbrev pub frontier_of : {S : Type 0} → List Row → List ℕ → Recovering S → ℕ → ℕ
frontier_of table stable_lengths r frontier =
    frontier + firm_front table stable_lengths (map (λ i. i.vector) (drop (frontier - r.base) r.intervals))

-- no vector is longer than this
abbrev pub NoLonger : ℕ → List Interval → Type 0
NoLonger n intervals = (i : ℕ) (x : Interval) → slice_get intervals i ≡ Some x → length x.vector ≤ n

-- so many intervals of a path are firm, behind whose base no vector has entries for more than n units
pub record IsFrontier {S : Type 0} (n : ℕ) (r : Recovering S) (frontier : ℕ) : Type 0 where
  pub base : r.base ≤ frontier
  pub path : frontier ≤ places r
  pub vectors : NoLonger n r.intervals

-- What a recovery unit keeps, and what its calls make of it.
use Rattle.std.specs.Prelude.{◌≡◌, ℕ, ◌+◌, ◌-◌, ◌<◌, ◌≤◌, ◌^◌, List, [], ◌∷◌, ◌++◌, length, take, drop, Option, Some}
use Rattle.std.specs.Prelude.{None, option_map, slice_get, true, cond, ◌==◌, ◌⊎◌}
use Rattle.model.specs.declared.limits.TheConstants.{MAX_CHECKPOINTS}
use Rattle.model.specs.declared.names.Row.{Row}
use Rattle.model.specs.declared.names.Seat.{Seat}
use Rattle.model.specs.declared.names.Source.{Source}
use Rattle.model.specs.declared.records.Record.{Record}
use Rattle.model.specs.Handler.{Meaning, Turn}
use Rattle.model.specs.Nodes.{sends_within}
use Rattle.handler.specs.Inputs.{Input, turn_upon_input}
use Rattle.checkpoint.specs.declared.snapshot.Snapshot.{Snapshot}
use Rattle.checkpoint.specs.Shelves.{Shelved, IsShelved, IsTop, Rises, put_on, cut_at, based_at, nearest_of}
use Rattle.depvector.specs.Vectors.{begun_vector}
use Rattle.session.specs.Counts.{advanced}
use Rattle.volatile_log.specs.Logs.{records_below}
use Rattle.orphan.specs.Tests.{is_orphan_by}
use Rattle.layer_laws.specs.Laws.{sent_all}
use Rattle.compact.specs.Compact.{Interval, Progress, fitted}
use Rattle.compact.specs.Laws.{replayed, replayed_one}
use Rattle.compact.specs.Steps.{first_progress, from_outside, no_letter}
use Rattle.rollback.specs.declared.record_draft.RecordDraft.{RecordDraft}

-- One unit. It has a progress while it is up. `base` is the index of the snapshot from which its intervals are kept,
-- `outside` how many receipts of its whole path were from outside; the records of the intervals that are not stable are
-- volatile.
pub record Recovering (S : Type 0) : Type 0 where
  pub seat : Seat
  pub progress : Option (Progress S)
  pub base : ℕ
  pub outside : ℕ
  pub shelf : Shelved (Progress S)
  pub intervals : List Interval
  pub volatile : List Record

-- how many intervals its path has
abbrev pub places : {S : Type 0} → Recovering S → ℕ
places u = u.base + length u.intervals

-- how many of them are stable
abbrev pub stable_places : {S : Type 0} → Recovering S → ℕ
stable_places u = places u - length u.volatile

-- the records are those of the intervals from this index on
abbrev pub Marked : ℕ → List Record → Type 0
Marked from records = (i : ℕ) (r : Record) → slice_get records i ≡ Some r → r.mark.index ≡ from + i

-- Up to the base so many receipts were from outside, and those behind it are counted.
abbrev pub CountsOutside : {S : Type 0} → ℕ → Recovering S → Type 0
CountsOutside before u = u.outside ≡ before + from_outside (drop 1 u.intervals)

-- The receipts from outside that are kept are counted, and up to the base there are no more than it has receipts.
pub record IsOutside (base outside : ℕ) (intervals : List Interval) : Type 0 where
  pub kept : from_outside (drop 1 intervals) ≤ outside
  pub before : outside ≤ base + from_outside (drop 1 intervals)

-- The base is shelved and stable, no snapshot is of an interval that is not stable, indices fit and rise,
-- records bear them, and receipts from outside are counted.
pub record IsKept {S : Type 0} (u : Recovering S) : Type 0 where
  pub base : option_map (λ s. s.index) u.shelf.base ≡ Some u.base
  pub stable : length u.volatile < length u.intervals
  pub few : places u ≤ 2 ^ 32
  pub top : IsTop u.shelf (stable_places u - 1)
  pub rises : Rises u.shelf.base u.shelf.others
  pub marks : Marked (stable_places u) u.volatile
  pub outside : IsOutside u.base u.outside u.intervals

-- ---- a receipt

-- the progress after a receipt from the source and its turn
abbrev pub progress_after_turn : {S : Type 0} → Progress S → Source → ℕ → Turn S → Progress S
progress_after_turn p source width turn = record {
  state = turn.state;
  sessions = sent_all (advanced p.sessions source) (sends_within width turn);
}

-- what a turn sends to which units, and what it puts out
pub record Effects : Type 0 where
  pub sends : List (ℕ × List ℕ)
  pub outputs : List (List ℕ)

abbrev pub effects_of : {S : Type 0} → Turn S → Effects
effects_of turn = record { sends = turn.sends; outputs = turn.outputs }

-- the whole input of the unit's turn upon a receipt, where it is up
abbrev pub asking : {S : Type 0} → Recovering S → Source → List ℕ → Option (Input S)
asking u source text =
    option_map (λ p. record { seat = u.seat; state = p.state; source = source; text = text }) u.progress

-- The unit is up, and its turn upon a receipt is this one.
pub record IsTurnUpon {S : Type 0} (M : Meaning S) (u : Recovering S) (source : Source) (text : List ℕ) (turn : Turn S)
    : Type 0 where
  pub input : Input S
  pub asked : asking u source text ≡ Some input
  pub own : turn ≡ turn_upon_input M input

-- the record of a receipt of the tenant of this name
abbrev pub recorded : List ℕ → RecordDraft → Record
recorded tenant d = record {
  tenant = tenant;
  unit = d.unit;
  mark = d.mark;
  source = d.source;
  letter = d.letter;
  number = d.number;
  text = d.text;
  vector = d.vector;
}

-- with one more interval, whose record is volatile
abbrev pub took : {S : Type 0} → Meaning S → Recovering S → Record → Recovering S
took M u r = record u {
  progress = option_map (λ p. replayed_one M u.seat p r) u.progress;
  outside = u.outside + cond (no_letter r.letter) 1 0;
  intervals = u.intervals ++ record { vector = r.vector; letter = r.letter } ∷ [];
  volatile = u.volatile ++ r ∷ [];
}

-- ---- beginning, stability, failure

-- a unit at its beginning, which is its base, in a tenant of so many units
abbrev pub begun_unit : {S : Type 0} → Meaning S → ℕ → Seat → Recovering S
begun_unit M width seat = record {
  seat = seat;
  progress = Some (first_progress M width seat);
  base = 0;
  outside = 0;
  shelf = record { base = Some (record { index = 0; state = first_progress M width seat }); others = [] };
  intervals = record { vector = begun_vector width; letter = None } ∷ [];
  volatile = [];
}

-- so many more are stable
abbrev pub marked_stable : {S : Type 0} → Recovering S → ℕ → Recovering S
marked_stable u count = record u { volatile = drop count u.volatile }

-- without progress and without the intervals that are not stable
abbrev pub killed_recovering : {S : Type 0} → Recovering S → Recovering S
killed_recovering u =
    let kept = length u.intervals - length u.volatile in
    record u {
      progress = None;
      outside = u.outside - from_outside (drop kept u.intervals);
      intervals = take kept u.intervals;
      volatile = [];
    }

-- ---- checkpoint, and units that joined

-- a shelf with a snapshot of this progress, if there is one
abbrev pub shelf_with : {P : Type 0} → Shelved P → ℕ → Option P → Shelved P
shelf_with shelf index None = shelf
shelf_with shelf index (Some p) = put_on shelf (record { index = index; state = p })

-- with a snapshot of the last interval, where the unit is up
abbrev pub checkpointed : {S : Type 0} → Recovering S → Recovering S
checkpointed u = record u { shelf = shelf_with u.shelf (places u - 1) u.progress }

-- The base is the same, and what was shelved still is, but for the first of as many others as may be kept.
pub record KeepsShelved {P : Type 0} (old new : Shelved P) : Type 0 where
  pub base : new.base ≡ old.base
  pub others : (x : Snapshot P) → IsShelved old x
      → IsShelved new x ⊎ ((MAX_CHECKPOINTS ≤ length old.others) × (slice_get old.others 0 ≡ Some x))

-- with an entry for each of n units in what it took and sent
abbrev pub widened_to : {S : Type 0} → Recovering S → ℕ → Recovering S
widened_to u n = record u { progress = option_map (fitted n) u.progress }

-- ---- orphans

-- what is read where no interval is
abbrev pub unknown : Interval
unknown = record { vector = []; letter = None }

-- what comes after an orphan is one
abbrev pub OrphansAreTail : List Row → List Interval → Type 0
OrphansAreTail rows intervals = (i j : ℕ) (x y : Interval) → i ≤ j → slice_get intervals i ≡ Some x
    → slice_get intervals j ≡ Some y → is_orphan_by rows x.vector ≡ true → is_orphan_by rows y.vector ≡ true

-- ---- going back

-- the index of an interval that is kept
pub record IsTarget {S : Type 0} (u : Recovering S) (target : ℕ) : Type 0 where
  pub base : u.base ≤ target
  pub path : target < places u

-- the path, the records and the snapshots up to the interval of this index
abbrev pub cut_behind : {S : Type 0} → Recovering S → ℕ → Recovering S
cut_behind u target = record u {
  outside = u.outside - from_outside (drop (target + 1 - u.base) u.intervals);
  shelf = cut_at u.shelf (target + 1);
  intervals = take (target + 1 - u.base) u.intervals;
  volatile = records_below u.volatile (target + 1);
}

-- The records from a snapshot up to the target: those that were fetched, and then those that are still volatile.
abbrev pub records_to : {S : Type 0} → Recovering S → ℕ → List Record → List Record
records_to u target fetched = fetched ++ records_below u.volatile (target + 1)

-- with its path cut, and the progress that the records give from the nearest snapshot on
abbrev pub restored : {S : Type 0} → Meaning S → Recovering S → ℕ → ℕ → List Record → Recovering S
restored M u target width fetched = record (cut_behind u target) {
  progress = option_map (λ s. replayed M u.seat (fitted width s.state) (records_to u target fetched))
      (nearest_of u.shelf target);
}

-- The snapshot from which the unit goes back to the target is, in a tenant of so many units, what these receipts give
-- from p on.
abbrev pub BeginsBy : {S : Type 0} → Meaning S → Recovering S → ℕ → ℕ → Progress S → List Record → Type 0
BeginsBy M u target width p before = (s : Snapshot _) → nearest_of u.shelf target ≡ Some s
    → fitted width s.state ≡ replayed M u.seat p before

-- ---- forgetting

-- with this snapshot as its base, and nothing from before
abbrev pub based_on : {S : Type 0} → Recovering S → ℕ → Recovering S
based_on u base = record u { base = base; shelf = based_at u.shelf base; intervals = drop (base - u.base) u.intervals }

abbrev pub forgotten : {S : Type 0} → Recovering S → ℕ → Recovering S
forgotten u base = cond (base == u.base) u (based_on u base)

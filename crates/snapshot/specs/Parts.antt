-- How the parts of a tenant are written as bytes.
use Rattle.std.specs.Prelude.{ℕ, ◌+◌, ◌<◌, ◌^◌, List, length, map}
use Rattle.checkpoint.specs.declared.snapshot.Snapshot.{Snapshot}
use Rattle.checkpoint.specs.Shelves.{Rises, Shelved}
use Rattle.output_commit.specs.declared.held.Held.{Held}
use Rattle.output_commit.specs.Holds.{Line}
use Rattle.compact.specs.Compact.{Progress}
use Rattle.rollback.specs.Units.{IsKept, Recovering}
use Rattle.codec.specs.Codes.{Code, FitEach, FitsRecord, FitsSeat, FitsSome, FitsText, byte_code, bytes_code}
use Rattle.codec.specs.Codes.{list_code, number_code, option_code, record_code, seat_code}
use Rattle.codec.specs.Layers.{FitCounts, FitsHeld, FitsInterval, counts_code, held_code, interval_code}

-- ---- a unit, where its states have these bytes

abbrev pub progress_code : {S : Type 0} → Code S → Code (Progress S)
progress_code state p rest = state p.state (counts_code p.sessions rest)

abbrev pub FitsProgress : {S : Type 0} → (S → Type 0) → Progress S → Type 0
FitsProgress fits p = fits p.state × FitCounts p.sessions

abbrev pub snapshot_code : {S : Type 0} → Code S → Code (Snapshot (Progress S))
snapshot_code state s rest = number_code s.index (progress_code state s.state rest)

abbrev pub FitsSnapshot : {S : Type 0} → (S → Type 0) → Snapshot (Progress S) → Type 0
FitsSnapshot fits s = (s.index < 2 ^ 32) × FitsProgress fits s.state

abbrev pub shelf_code : {S : Type 0} → Code S → Code (Shelved (Progress S))
shelf_code state s rest =
    option_code (snapshot_code state) s.base (list_code (snapshot_code state) s.others rest)

abbrev pub FitsShelf : {S : Type 0} → (S → Type 0) → Shelved (Progress S) → Type 0
FitsShelf fits s = FitsSome (FitsSnapshot fits) s.base × FitEach (FitsSnapshot fits) s.others × Rises s.base s.others

abbrev pub unit_code : {S : Type 0} → Code S → Code (Recovering S)
unit_code state u rest =
    seat_code u.seat (option_code (progress_code state) u.progress (number_code u.base (number_code u.outside
    (list_code interval_code u.intervals (list_code record_code u.volatile (shelf_code state u.shelf rest))))))

pub record FitsUnit {S : Type 0} (fits : S → Type 0) (u : Recovering S) : Type 0 where
  pub seat : FitsSeat u.seat
  pub progress : FitsSome (FitsProgress fits) u.progress
  pub base : u.base < 2 ^ 32
  pub outside : u.outside < 2 ^ 64
  pub intervals : FitEach FitsInterval u.intervals
  pub volatile : FitEach FitsRecord u.volatile
  pub shelf : FitsShelf fits u.shelf
  pub kept : IsKept u

-- ---- what a unit holds, and what it released

-- a unit and the outputs that it holds
abbrev pub hold_code : Code (ℕ × List Held)
hold_code h rest = byte_code h.0 (list_code held_code h.1 rest)

abbrev pub FitsHold : ℕ × List Held → Type 0
FitsHold h = (h.0 < 256) × FitEach FitsHeld h.1

-- how many texts a unit gave up, and those behind them
abbrev pub line_code : Code (ℕ × List (List ℕ))
line_code line rest = number_code line.0 (list_code bytes_code line.1 rest)

abbrev pub FitsLine : ℕ × List (List ℕ) → Type 0
FitsLine line = FitEach FitsText line.1 × (line.0 + length line.1 < 2 ^ 64)

-- what the units released, without the room that is left
abbrev pub pairs_of : List Line → List (ℕ × List (List ℕ))
pairs_of lines = map (λ l. (l.gone, l.texts)) lines

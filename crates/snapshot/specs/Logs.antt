-- How the log of a host is written as bytes.
use Rattle.std.specs.Prelude.{◌≡◌, ℕ, ◌<◌, ◌^◌, All, AllPairs, List, [], ◌++◌, Option, length, zero, suc}
use Rattle.model.specs.declared.records.Record.{Record}
use Rattle.shared_log.specs.Filled.{AreLiveIn, HaveAllLive, LeavesRoom}
use Rattle.shared_log.specs.Logged.{Logged, places_of}
use Rattle.codec.specs.Codes.{Code, Encodes, FitEach, FitsRecord, list_code, number_code, pair_code, record_code}

-- a live record behind its place
abbrev pub live_code : Code (ℕ × Record)
live_code pair rest = pair_code number_code record_code pair rest

abbrev pub FitsLive : ℕ × Record → Type 0
FitsLive pair = (pair.0 < 2 ^ 64) × FitsRecord pair.1

-- how many places there are, and the live records, each with its place
abbrev pub log_code : Code (ℕ × List (ℕ × Record))
log_code log rest = number_code log.0 (list_code live_code log.1 rest)

abbrev pub FitsLog : ℕ × List (ℕ × Record) → Type 0
FitsLog log = (log.0 < 2 ^ 64) × FitEach FitsLive log.1

-- ---- in which order the live records are written

-- the places of the live records of so many units of a tenant, unit by unit
unfoldable pub unit_places : List ℕ → ℕ → Logged → List ℕ
unit_places tenant zero log = []
unit_places tenant (suc count) log = unit_places tenant count log ++ places_of tenant count log

-- none of these is a record of this tenant
abbrev pub NoneOf : List ℕ → List (ℕ × Record) → Type 0
NoneOf tenant pairs = All (λ pair. pair.1.tenant ≡ tenant → ⊥) pairs

-- each of these leaves room for each behind it
abbrev pub LeaveRoom : List (ℕ × Record) → Type 0
LeaveRoom pairs = AllPairs (λ first later. LeavesRoom later.0 later.1 first) pairs

-- each of these has one of so many places
abbrev pub AreWithin : ℕ → List (ℕ × Record) → Type 0
AreWithin count pairs = All (λ pair. pair.0 < count) pairs

-- ---- what was written

-- These are the live records of the list, each with its place, so that each leaves room for those behind it, and they
-- have bytes.
pub record AreWritten (records : List (Option Record)) (pairs : List (ℕ × Record)) : Type 0 where
  pub live : AreLiveIn records pairs
  pub all : HaveAllLive records pairs
  pub room : LeaveRoom pairs
  pub fit : FitsLog (length records, pairs)

-- The bytes of the records were appended, with the live ones in such an order.
abbrev pub WritesLog : List (Option Record) → List ℕ → List ℕ → Type 0
WritesLog records old new = (pairs : List (ℕ × Record)) × AreWritten records pairs
    × Encodes log_code (length records, pairs) old new

-- Where what was left began with the bytes of records, they are these, and what followed is left now.
abbrev pub ReadsLog : List ℕ → List (Option Record) → List ℕ → Type 0
ReadsLog old records new = (written : List (Option Record)) (pairs : List (ℕ × Record)) (rest : List ℕ)
    → AreWritten written pairs → old ≡ log_code (length written, pairs) rest → (written ≡ records) × (rest ≡ new)

-- Where what was left began with the bytes of records, this is so.
abbrev pub UnlessLog : List ℕ → Type 0 → Type 0
UnlessLog old P = (written : List (Option Record)) (pairs : List (ℕ × Record)) (rest : List ℕ)
    → AreWritten written pairs → old ≡ log_code (length written, pairs) rest → P

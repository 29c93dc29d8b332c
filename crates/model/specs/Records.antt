-- The record of a node that is logged, and which answers of a store are honest.
use Rattle.std.specs.Prelude.{◌≡◌, ◌≢◌, ◌≤◌, ◌<◌, ◌↔◌, ◌&&◌, ℕ, Bool, false, not, nat_le, nat_lt, List, [], length}
use Rattle.std.specs.Prelude.{take, drop, map, Option, Some, None, slice_get, unwrap_or, true}
use Rattle.model.specs.declared.limits.TheConstants.{MAX_INCARNATION}
use Rattle.model.specs.declared.names.Mark.{Mark}
use Rattle.model.specs.declared.names.Source.TheVariants.{Outside}
use Rattle.model.specs.declared.records.Record.{Record}
use Rattle.model.specs.declared.replies.Said.{Said}
use Rattle.model.specs.declared.replies.End.TheVariants.{Whole, Memory}
use Rattle.model.specs.declared.steps.TenantStep.{TenantStep}
use Rattle.model.specs.declared.steps.TenantStep.TheVariants.{Open, Join, Post, Deliver, Flush, Checkpoint, Kill}
use Rattle.model.specs.declared.steps.TenantStep.TheVariants.{Restart, Notice, Release, Status}
use Rattle.model.specs.Handler.{Meaning}
use Rattle.model.specs.Lists.{numbers_from}
use Rattle.model.specs.Nodes.{Node, Cause, began, outside, letter, Message, node_at}
use Rattle.model.specs.Steps.{path_kept}
use Rattle.model.specs.World.{World, Member, executed, incarnation_of, source_of, text_of, mark_of, greatest_mark}
use Rattle.model.specs.World.{past_nodes}

-- what the store says where it is not asked
abbrev pub quiet : Said
quiet = record { appended = 0; end = Whole }

abbrev pub number_of_letter : Option Message → ℕ
number_of_letter None = 0
number_of_letter (Some m) = m.number

-- the session number of a receipt
abbrev pub number_of : List Message → Cause → ℕ
number_of letters began = 0
number_of letters (outside number text) = number
number_of letters (letter l sender) = number_of_letter (slice_get letters l)

abbrev pub letter_of : Cause → Option ℕ
letter_of began = None
letter_of (outside number text) = None
letter_of (letter l sender) = Some l

-- the greatest mark of each unit in the past, one for each unit that the tenant had when the node was made
abbrev pub vector_of : List Node → ℕ → List Mark
vector_of nodes x = map (greatest_mark (past_nodes nodes x)) (numbers_from 0 (node_at nodes x).units)

-- the record of the node at a place
abbrev pub record_of : {S : Type 0} → Meaning S → List ℕ → World → ℕ → Record
record_of M tenant w x =
    let n = node_at w.nodes x in
    let letters = (executed M w).letters in
    record {
      tenant = tenant;
      unit = n.unit;
      mark = mark_of n;
      source = unwrap_or (source_of w.nodes n.cause) Outside;
      letter = letter_of n.cause;
      number = number_of letters n.cause;
      text = text_of letters n.cause;
      vector = vector_of w.nodes x;
    }

-- the records of a unit's volatile log
abbrev pub volatile_records : {S : Type 0} → Meaning S → List ℕ → World → Member → List Record
volatile_records M tenant w m = map (record_of M tenant w) (drop m.stable m.path)

-- the store was not asked, and was not given anything
abbrev pub IsQuiet : Said → List Record → Type 0
IsQuiet said grown = (said.appended ≡ 0) × (said.end ≡ Whole) × (grown ≡ [])

-- a flush of a unit that is up: the store took the first of its volatile records, and the end is whole just where it
-- took all; where there was no memory for the first, the flush is not entered
pub record IsFlushed {S : Type 0} (M : Meaning S) (tenant : List ℕ) (w : World) (m : Member) (said : Said)
    (grown : List Record) : Type 0 where
  pub first : grown ≡ take said.appended (volatile_records M tenant w m)
  pub within : said.appended ≤ length (volatile_records M tenant w m)
  pub whole : (said.end ≡ Whole) ↔ (said.appended ≡ length (volatile_records M tenant w m))
  pub some : said.end ≡ Memory → 0 < said.appended

abbrev pub FlushesUnit : {S : Type 0} → Meaning S → List ℕ → World → Said → List Record → Option Member → Type 0
FlushesUnit M tenant w said grown None = IsQuiet said grown
FlushesUnit M tenant w said grown (Some m) =
    ((m.up ≡ true) → IsFlushed M tenant w m said grown) × (¬ (m.up ≡ true) → IsQuiet said grown)

-- whether the unit has an incarnation left
abbrev pub has_incarnation_left : World → ℕ → Bool
has_incarnation_left w u = not (nat_le MAX_INCARNATION (incarnation_of w.table u))

-- whether a restart asks the store: of a unit that is there and down, with an incarnation left
abbrev pub restart_fetches : World → ℕ → Option Member → Bool
restart_fetches w u None = false
restart_fetches w u (Some m) = not m.up && has_incarnation_left w u

-- whether a notice does: of a unit that is there and up, has an orphan on its path, and an incarnation left
abbrev pub notice_fetches : World → ℕ → Option Member → Bool
notice_fetches w u None = false
notice_fetches w u (Some m) = m.up && (nat_lt (length (path_kept w m)) (length m.path) && has_incarnation_left w u)

-- The store was not given anything. It may fail only where it is asked; where there was no memory, the step is not
-- entered.
pub record IsFetching (asked : Bool) (said : Said) (grown : List Record) : Type 0 where
  pub nothing : (said.appended ≡ 0) × (grown ≡ [])
  pub whole : asked ≡ false → said.end ≡ Whole
  pub memory : said.end ≢ Memory

-- what the store said during a step is honest, where it took these records then
abbrev pub IsHonest : {S : Type 0} → Meaning S → List ℕ → World → TenantStep → Said → List Record → Type 0
IsHonest M tenant w (Open kinds quota optimism) said grown = IsQuiet said grown
IsHonest M tenant w (Join kind) said grown = IsQuiet said grown
IsHonest M tenant w (Post unit number text) said grown = IsQuiet said grown
IsHonest M tenant w (Deliver l) said grown = IsQuiet said grown
IsHonest M tenant w (Flush unit) said grown = FlushesUnit M tenant w said grown (slice_get w.members unit)
IsHonest M tenant w (Checkpoint unit) said grown = IsQuiet said grown
IsHonest M tenant w (Kill unit) said grown = IsQuiet said grown
IsHonest M tenant w (Restart unit) said grown =
    IsFetching (restart_fetches w unit (slice_get w.members unit)) said grown
IsHonest M tenant w (Notice unit) said grown = IsFetching (notice_fetches w unit (slice_get w.members unit)) said grown
IsHonest M tenant w (Release unit) said grown = IsQuiet said grown
IsHonest M tenant w (Status unit) said grown = IsQuiet said grown

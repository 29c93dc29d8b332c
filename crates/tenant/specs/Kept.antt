-- What a tenant keeps, by lists.
use Rattle.std.specs.Prelude.{◌≡◌, All, [], ◌∷◌, replicate, length, ◌++◌, ◌-◌, min, option_map, drop, map, slice_get}
use Rattle.std.specs.Prelude.{Bool, false, ◌||◌, ◌==◌, ◌⊎◌}
use Rattle.std.specs.Prelude.{slice_set, ℕ, cond, nat_le, nat_lt, List, Option, Some, None, ◌+◌, take, ◌<◌, ◌^◌}
use Rattle.std.specs.List.{fold, position}
use Rattle.std.specs.Option.{is_some}
use Rattle.model.specs.declared.limits.TheConstants.{MAX_INCARNATION}
use Rattle.handler.specs.Inputs.{Input, turn_upon_input}
use Rattle.model.specs.declared.names.Mark.{Mark}
use Rattle.model.specs.declared.names.Quota.{Quota}
use Rattle.model.specs.declared.names.Row.{Row}
use Rattle.model.specs.declared.names.Seat.{Seat}
use Rattle.model.specs.declared.records.Record.{Record}
use Rattle.model.specs.declared.refusals.Refusal.{Refusal}
use Rattle.model.specs.declared.refusals.Refusal.TheVariants.{Down, Limit, NoUnit, Up}
use Rattle.model.specs.Handler.{Meaning, Turn}
use Rattle.model.specs.World.{incarnation_of}
use Rattle.model.specs.declared.names.Source.{Source}
use Rattle.model.specs.declared.names.Source.TheVariants.{Unit as FromUnit}
use Rattle.model.specs.declared.replies.Reply.{Reply}
use Rattle.model.specs.declared.replies.Reply.TheVariants.{Accepted}
use Rattle.model.specs.declared.steps.TenantStep.{TenantStep}
use Rattle.model.specs.declared.steps.TenantStep.TheVariants.{Release}
use Rattle.model.specs.Lists.{numbers_from}
use Rattle.model.specs.Nodes.{sends_within}
use Rattle.model.specs.Steps.{kind_or_0}
use Rattle.session.specs.Counts.{Counts, advanced}
use Rattle.output_commit.specs.declared.held.Held.{Held}
use Rattle.output_commit.specs.Holds.{Line, held_below, held_of}
use Rattle.checkpoint.specs.declared.snapshot.Snapshot.{Snapshot}
use Rattle.checkpoint.specs.Shelves.{nearest_of}
use Rattle.orphan.specs.Tests.{is_orphan_by}
use Rattle.compact.specs.Compact.{CompactLetter, Progress, Content}
use Rattle.rollback.specs.Units.{Recovering, begun_unit, checkpointed, cut_behind, killed_recovering, marked_stable}
use Rattle.rollback.specs.Units.{places, restored, stable_places, widened_to, asking, took, IsTurnUpon}
use Rattle.unit_steps.specs.Receipts.{IsFrontier, frontier_of, TenantView, letter_refused, mark_upon, turn_refused}
use Rattle.unit_steps.specs.Receipts.{vector_upon}
use Rattle.compact.specs.Steps.{Receipt, letters_by}

-- One unit: what it needs to go on and to go back, its held outputs, how many rows it knows, and whether a checkpoint
-- of its beginning was put.
pub record Member (S : Type 0) : Type 0 where
  pub unit_state : Recovering S
  pub unit : ℕ
  pub outputs : List Held
  pub known : ℕ
  pub first_put : Bool

-- An open tenant. For each unit it keeps how many of its intervals are stable and how many are firm, how many of the
-- texts that it released were given up, and those behind them.
pub record TenantState (S : Type 0) : Type 0 where
  pub quota : Quota
  pub optimism : ℕ
  pub table : List Row
  pub members : List (Member S)
  pub stable_lengths : List ℕ
  pub frontiers : List ℕ
  pub gone : List ℕ
  pub released : List (List (List ℕ))
  pub letters : List CompactLetter

-- these counts are of texts that were given up, and none was
abbrev pub NoneGone : List ℕ → Type 0
NoneGone gone = All (λ n. n ≡ 0) gone

-- no unit gave up a text
abbrev pub KeepsTexts : {S : Type 0} → TenantState S → Type 0
KeepsTexts t = NoneGone t.gone

-- of what units released these are kept, and there are none
abbrev pub NoTexts : List (List (List ℕ)) → Type 0
NoTexts released = (u : ℕ) (texts : List (List ℕ)) → slice_get released u ≡ Some texts → texts ≡ []

-- no unit keeps a text that it released
abbrev pub KeepsNoText : {S : Type 0} → TenantState S → Type 0
KeepsNoText t = NoTexts t.released

-- A unit that keeps texts is the one that this step released.
abbrev pub KeepsNoTextBut : {S : Type 0} → TenantStep → TenantState S → Type 0
KeepsNoTextBut step t =
    (u : ℕ) (texts : List (List ℕ)) → slice_get t.released u ≡ Some texts → (texts ≡ []) ⊎ (step ≡ Release u)

-- ---- a unit that is there and up

-- why a unit can't do what only a unit that is up can
abbrev pub up_refusal : {S : Type 0} → Option (Member S) → Option Refusal
up_refusal None = Some NoUnit
up_refusal (Some m) = cond (is_some m.unit_state.progress) None (Some Down)

-- ---- release

-- how many texts the units gave up
abbrev pub gone_of : List Line → List ℕ
gone_of lines = map (λ l. l.gone) lines

-- what the units released behind those
abbrev pub released_of : List Line → List (List (List ℕ))
released_of lines = map (λ l. l.texts) lines

-- the texts of the outputs at the front that are of the first so many intervals
abbrev pub firm_texts : List Held → ℕ → List (List ℕ)
firm_texts outputs frontier = map (λ o. o.text) (held_below outputs frontier)

-- and the outputs behind them
abbrev pub unfirm : List Held → ℕ → List Held
unfirm outputs frontier = drop (length (held_below outputs frontier)) outputs

-- Some of a unit's firm outputs moved to what it released. As many firm outputs are left of them together.
pub record AreMoved (frontier : ℕ) (outputs : List Held) (texts : List (List ℕ)) (left : List Held)
    (more : List (List ℕ)) : Type 0 where
  pub all : more ++ firm_texts left frontier ≡ texts ++ firm_texts outputs frontier
  pub rest : unfirm left frontier ≡ unfirm outputs frontier

abbrev pub released_member : {S : Type 0} → Member S → ℕ → Member S
released_member m frontier = record m { outputs = unfirm m.outputs frontier }

-- the firm outputs of this unit left: the units then, and what they released
abbrev pub with_firm_out : {S : Type 0} → List (Member S) → ℕ → Member S → ℕ → List (Member S)
with_firm_out members u m frontier = slice_set members u (released_member m frontier)

abbrev pub firm_of : {S : Type 0} → List (List (List ℕ)) → ℕ → Member S → ℕ → List (List ℕ) → List (List (List ℕ))
firm_of released u m frontier texts = slice_set released u (texts ++ firm_texts m.outputs frontier)

-- the firm outputs of this unit left, which had released these texts
abbrev pub AreOut : {S : Type 0} → ℕ → Member S → ℕ → List (List ℕ) → List (Member S) → List (List (List ℕ))
    → List (Member S) → List (List (List ℕ)) → Type 0
AreOut u m frontier texts members released after now =
    (after ≡ with_firm_out members u m frontier) × (now ≡ firm_of released u m frontier texts)

abbrev pub with_firm_released : {S : Type 0} → TenantState S → ℕ → Member S → ℕ → List (List ℕ) → TenantState S
with_firm_released t u m frontier texts =
    record t { members = with_firm_out t.members u m frontier; released = firm_of t.released u m frontier texts }

-- ---- kill

-- the outputs of intervals below this index, which a path of more than 2^32 intervals would not have
abbrev pub outputs_to : List Held → ℕ → List Held
outputs_to outputs n = cond (nat_lt n (2 ^ 32)) (held_below outputs n) outputs

abbrev pub killed_member : {S : Type 0} → Member S → Member S
killed_member m =
    record m {
      unit_state = killed_recovering m.unit_state;
      outputs = outputs_to m.outputs (places (killed_recovering m.unit_state));
    }

-- ---- checkpoint

abbrev pub checkpointed_member : {S : Type 0} → Member S → Member S
checkpointed_member m = record m {
  unit_state = checkpointed m.unit_state;
  first_put = m.first_put || (places m.unit_state - 1 == 0);
}

-- ---- open

-- a unit at its beginning, in a tenant of so many units, when there are so many rows
abbrev pub begun_member : {S : Type 0} → Meaning S → ℕ → Seat → ℕ → Member S
begun_member M width seat known =
    record { unit_state = begun_unit M width seat; unit = seat.unit; outputs = []; known = known; first_put = false }

-- one unit more, at its beginning
abbrev pub with_begun : {S : Type 0} → Meaning S → ℕ → List (Member S) → ℕ → List (Member S)
with_begun M width members kind =
    members ++ begun_member M width (record { unit = length members; kind = kind; home = width }) 0 ∷ []

-- a tenant with units of these kinds, each at its beginning
abbrev pub opened_kept : {S : Type 0} → Meaning S → List (List ℕ) → Quota → ℕ → TenantState S
opened_kept M kinds quota optimism = record {
  quota = quota;
  optimism = optimism;
  table = [];
  members = fold (λ ms n. with_begun M (length kinds) ms (kind_or_0 (M.kind n))) [] kinds;
  stable_lengths = replicate (length kinds) 1;
  frontiers = replicate (length kinds) 1;
  gone = replicate (length kinds) 0;
  released = replicate (length kinds) [];
  letters = [];
}

-- ---- flush

-- so many more of a unit's intervals are stable
abbrev pub flushed_member : {S : Type 0} → Member S → ℕ → Member S
flushed_member m count = record m { unit_state = marked_stable m.unit_state count }

-- Each unit's frontier goes on as far as the vectors behind it are firm.
abbrev pub GoOn : {S : Type 0} → List Row → List ℕ → List (Member S) → List ℕ → List ℕ → Type 0
GoOn {S} table stable_lengths members before after =
    (u : ℕ) (m : Member S) (f : ℕ) → slice_get members u ≡ Some m → slice_get before u ≡ Some f
    → IsFrontier (length stable_lengths) m.unit_state f
    → slice_get after u ≡ Some (frontier_of table stable_lengths m.unit_state f)

-- So many more intervals of the unit are stable, and the frontiers have gone on. All else is as it was.
pub record MakesStable {S : Type 0} (before : TenantState S) (u count : ℕ) (m : Member S)
    (after : TenantState S) : Type 0 where
  pub quota : after.quota ≡ before.quota
  pub optimism : after.optimism ≡ before.optimism
  pub table : after.table ≡ before.table
  pub members : after.members ≡ slice_set before.members u (flushed_member m count)
  pub stable_lengths : after.stable_lengths
      ≡ slice_set before.stable_lengths u (stable_places (flushed_member m count).unit_state)
  pub fronts : length after.frontiers ≡ length before.frontiers
  pub frontiers : GoOn before.table after.stable_lengths after.members before.frontiers after.frontiers
  pub gone : after.gone ≡ before.gone
  pub released : after.released ≡ before.released
  pub letters : after.letters ≡ before.letters

-- ---- join

-- with an entry for each of n units in what it took and sent
abbrev pub fitted_member : {S : Type 0} → ℕ → Member S → Member S
fitted_member n m = record m { unit_state = widened_to m.unit_state n }

-- so are the units from this place on
abbrev pub fitted_from : {S : Type 0} → ℕ → List (Member S) → ℕ → List (Member S)
fitted_from n members at = take at members ++ map (fitted_member n) (drop at members)

-- one unit more, at its beginning, and the others fitted for it
abbrev pub joined_kept : {S : Type 0} → Meaning S → TenantState S → ℕ → TenantState S
joined_kept M t kind =
    let width = length t.members + 1 in
    record t {
      members = map (fitted_member width) t.members
          ++ begun_member M width (record { unit = length t.members; kind = kind; home = width }) (length t.table)
          ∷ [];
      stable_lengths = t.stable_lengths ++ 1 ∷ [];
      frontiers = t.frontiers ++ 1 ∷ [];
      gone = t.gone ++ 0 ∷ [];
      released = t.released ++ [] ∷ [];
    }

-- ---- going back

-- why a unit can't restart, whatever the store says
abbrev pub restart_refusal : {S : Type 0} → List Row → ℕ → Option (Member S) → Option Refusal
restart_refusal table u None = Some NoUnit
restart_refusal table u (Some m) = cond (is_some m.unit_state.progress) (Some Up)
    (cond (nat_le MAX_INCARNATION (incarnation_of table u)) (Some Limit) None)

-- how many places of a path are kept, where this one is the first orphan, if there is one
abbrev pub kept_before : Option ℕ → ℕ → ℕ
kept_before None all = all
kept_before (Some first) all = first

-- how much of a path comes before its first orphan, by these rows
abbrev pub kept_length : {S : Type 0} → List Row → Recovering S → ℕ
kept_length rows r =
    kept_before (option_map (λ i. r.base + i) (position (λ x. is_orphan_by rows x.vector) r.intervals)) (places r)

-- up to the target, with this progress
abbrev pub returned : {S : Type 0} → Recovering S → ℕ → Option (Progress S) → Recovering S
returned r target progress = record (cut_behind r target) { progress = progress }

abbrev pub returned_member : {S : Type 0} → Member S → ℕ → Option (Progress S) → ℕ → Member S
returned_member m target progress known = record m {
  unit_state = returned m.unit_state target progress;
  outputs = outputs_to m.outputs (target + 1);
  known = known;
}

-- with the unit gone back to the target, and a row that says so
abbrev pub returned_kept : {S : Type 0} → TenantState S → ℕ → Member S → ℕ → ℕ → Option (Progress S) → TenantState S
returned_kept t u m target incarnation progress = record t {
  table = t.table ++ record { unit = u; incarnation = incarnation; start = target + 1 } ∷ [];
  members = slice_set t.members u (returned_member m target progress (length t.table + 1));
  stable_lengths = slice_set t.stable_lengths u (stable_places (returned m.unit_state target progress));
}

-- these records are those at these positions of a unit's live ones
abbrev pub AreFetched : List (Option Record) → List ℕ → ℕ → ℕ → List Record → Type 0
AreFetched records places first last fetched =
    map (λ r. Some (Some r)) fetched ≡ map (slice_get records) (take (last - first) (drop first places))

-- how many records of a unit are live: those of its stable intervals behind the base
abbrev pub live_count : {S : Type 0} → Recovering S → ℕ
live_count r = stable_places r - 1 - r.base

-- These are the stable records behind the snapshot from which the unit goes back to the target.
abbrev pub AreNeeded : {S : Type 0} → List (Option Record) → List ℕ → Recovering S → ℕ → List Record → Type 0
AreNeeded {S} records live r target fetched =
    (s : Snapshot (Progress S)) → nearest_of r.shelf target ≡ Some s
    → AreFetched records (drop (length live - live_count r) live) (s.index - r.base)
    (min (target + 1) (stable_places r) - 1 - r.base) fetched

-- the progress at the target is what replay of those records gives
abbrev pub IsReplayed : {S : Type 0} → Meaning S → List (Option Record) → List ℕ → Recovering S → ℕ → ℕ
    → Option (Progress S) → Type 0
IsReplayed M records live r target width progress =
    (fetched : List Record) × AreNeeded records live r target fetched
    × (progress ≡ (restored M r target width fetched).progress)

-- ---- receipts

-- The unit's turn upon this text has this input, and no test before the turn refuses the receipt.
pub record IsAsking {S : Type 0} (refusal : Option Refusal) (r : Recovering S) (source : Source) (text : List ℕ)
    (input : Input S) : Type 0 where
  pub passes : refusal ≡ None
  pub room : places r < 2 ^ 32
  pub asked : asking r source text ≡ Some input

-- The unit's turn upon this text is this one, and no test before the turn refuses the receipt.
pub record IsTurn {S : Type 0} (M : Meaning S) (refusal : Option Refusal) (r : Recovering S) (source : Source)
    (text : List ℕ) (turn : Turn S) : Type 0 where
  pub input : Input S
  pub asking : IsAsking refusal r source text input
  pub own : turn ≡ turn_upon_input M input

-- what the tenant tells a unit of its table and its other units
abbrev pub known_of : {S : Type 0} → TenantState S → Member S → TenantView
known_of t m = record { table = t.table; rows = m.known; stable_lengths = t.stable_lengths }

-- why a letter is refused before its turn
abbrev pub letter_refusal_of : {S : Type 0} → TenantState S → Member S → CompactLetter → Option Refusal
letter_refusal_of t m c =
    letter_refused (known_of t m) t.optimism t.quota.volatile m.unit_state c.source c.content

-- The letter has a content, upon whose text its receiver's turn has this input, and no test before the turn refuses it.
abbrev pub IsAskingBy : {S : Type 0} → TenantState S → Member S → CompactLetter → Option Content → Input S → Type 0
IsAskingBy t m c None input = ⊥
IsAskingBy t m c (Some content) input =
    IsAsking (letter_refusal_of t m c) m.unit_state (FromUnit c.source) content.text input

-- The same of a turn.
abbrev pub IsTurnBy : {S : Type 0} → Meaning S → TenantState S → Member S → CompactLetter → Option Content → Turn S
    → Type 0
IsTurnBy M t m c None turn = ⊥
IsTurnBy M t m c (Some content) turn =
    IsTurn M (letter_refusal_of t m c) m.unit_state (FromUnit c.source) content.text turn

-- the mark, the vector and the record of the interval that a receipt makes
abbrev pub next_mark_of : {S : Type 0} → TenantState S → ℕ → Member S → Mark
next_mark_of t u m = mark_upon t.table u m.unit_state

abbrev pub next_vector_of : {S : Type 0} → TenantState S → ℕ → Member S → Receipt → List Mark
next_vector_of t u m q = vector_upon t.table (length t.members) u m.unit_state q.vector

abbrev pub next_record_of : {S : Type 0} → List ℕ → TenantState S → ℕ → Member S → Receipt → Record
next_record_of name t u m q = record {
  tenant = name;
  unit = u;
  mark = next_mark_of t u m;
  source = q.source;
  letter = q.letter;
  number = q.number;
  text = q.text;
  vector = next_vector_of t u m q;
}

-- the letters that its turn makes, where the unit's sessions were these before
abbrev pub next_letters_of : {S : Type 0} → TenantState S → ℕ → Member S → Receipt → Turn S → Counts
    → List CompactLetter
next_letters_of t u m q turn sessions =
    letters_by u (next_vector_of t u m q) (advanced sessions q.source) (sends_within (length t.members) turn)

-- and what it is answered
abbrev pub next_reply_of : {S : Type 0} → TenantState S → ℕ → Member S → Turn S → Reply
next_reply_of t u m turn = Accepted (next_mark_of t u m) (length m.outputs + length turn.outputs)
    (numbers_from (length t.letters) (length (sends_within (length t.members) turn)))

-- why it is refused for what its turn makes
abbrev pub turn_refusal_of : {S : Type 0} → TenantState S → Member S → Turn S → Option Refusal
turn_refusal_of t m turn = turn_refused t.quota (length m.outputs) (length t.letters) (length t.members) turn

-- a unit with one more interval, which has this record and these outputs
abbrev pub received_member : {S : Type 0} → Meaning S → Member S → Record → List (List ℕ) → Member S
received_member M m r outputs =
    record m { unit_state = took M m.unit_state r; outputs = m.outputs ++ held_of r.mark outputs }

-- the tenant with such a unit, and with these letters
abbrev pub received_kept : {S : Type 0} → Meaning S → TenantState S → ℕ → Member S → Record → List (List ℕ)
    → List CompactLetter → TenantState S
received_kept M t u m r outputs made =
    record t { members = slice_set t.members u (received_member M m r outputs); letters = t.letters ++ made }

-- The record is of the unit's next interval, whose turn is this one.
pub record IsNext {S : Type 0} (M : Meaning S) (m : Member S) (r : Record) (turn : Turn S) : Type 0 where
  pub room : places m.unit_state < 2 ^ 32
  pub mark : r.mark.index ≡ places m.unit_state
  pub own : IsTurnUpon M m.unit_state r.source r.text turn

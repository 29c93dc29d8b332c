-- What the layers compute, on the graph of state intervals.
use Rattle.std.specs.Prelude.{◌≡◌, ℕ, ◌-◌, ◌<◌, ◌≤◌, Bool, false, take, drop, List, [], ◌∷◌, ◌++◌, length, Option, Some}
use Rattle.std.specs.Prelude.{None, MatchOption, slice_get, slice_set, slice_index, map}
use Rattle.std.specs.List.{take_while, position}
use Rattle.model.specs.declared.names.Mark.{Mark}
use Rattle.model.specs.declared.names.Source.{Source}
use Rattle.model.specs.declared.names.Source.TheVariants.{Outside, Unit as FromUnit}
use Rattle.model.specs.declared.refusals.Refusal.{Refusal}
use Rattle.model.specs.declared.refusals.Refusal.TheVariants.{Repeat as RepeatRefusal, Gap as GapRefusal}
use Rattle.model.specs.Handler.{Meaning}
use Rattle.model.specs.Lists.{from_end, numbers_from}
use Rattle.model.specs.Nodes.{Node, Cause, began, outside, letter, node_at, line, execution, count_along}
use Rattle.model.specs.World.{World, Member, executed, is_firm, mark_of, source_of, taken, held, releasable}
use Rattle.model.specs.World.{unstable_units}
use Rattle.model.specs.Records.{vector_of, volatile_records}
use Rattle.model.specs.Steps.{first_refusal, number_tests, path_kept, flushed, killed, back_at}
use Rattle.model.specs.Alone.{Reachable}
use Rattle.depvector.specs.Vectors.{joined, widened}
use Rattle.session.specs.declared.arrival.Arrival.{Arrival}
use Rattle.session.specs.declared.arrival.Arrival.TheVariants.{Next, Repeat, Gap}
use Rattle.session.specs.Arrivals.{arrival_of}
use Rattle.session.specs.Counts.{Counts, advanced, no_counts, sent_one, taken_from, sent_to, IsCounted}
use Rattle.orphan.specs.Tests.{is_orphan_by, unstable_count}
use Rattle.output_commit.specs.declared.held.Held.{Held}
use Rattle.output_commit.specs.Holds.{first_is_firm, held_below}
use Rattle.volatile_log.specs.Logs.{records_below}

-- ---- dependency vectors

-- the vector of the node before; none before a beginning
abbrev pub vector_before : List Node → Option ℕ → List Mark
vector_before nodes None = []
vector_before nodes (Some b) = vector_of nodes b

-- the vector that a node's letter brought; none where it had no letter
abbrev pub vector_received : List Node → Cause → List Mark
vector_received nodes began = []
vector_received nodes (outside number text) = []
vector_received nodes (letter l sender) = vector_of nodes sender

-- the vector of the node before it, widened to the units that the tenant had, and joined with that of its letter
abbrev pub vector_joined : List Node → Node → List Mark
vector_joined nodes n = joined (widened (vector_before nodes n.before) n.units) (vector_received nodes n.cause)

-- A node's vector is that of the node before it, widened to the units that the tenant had, joined with that of its
-- letter, with its own mark set; and the lengths are such that each of these calls may be made.
pub record IsMade (nodes : List Node) (x : ℕ) : Type 0 where
  pub vector : vector_of nodes x
      ≡ slice_set (vector_joined nodes (node_at nodes x)) (node_at nodes x).unit (mark_of (node_at nodes x))
  pub before : length (vector_before nodes (node_at nodes x).before) ≤ (node_at nodes x).units
  pub received : length (vector_received nodes (node_at nodes x).cause) ≤ (node_at nodes x).units
  pub own : (node_at nodes x).unit < (node_at nodes x).units

-- so it is of every node
abbrev pub NodeVectorsAreMade : {S : Type 0} → Meaning S → Type 0
NodeVectorsAreMade M = (w : World) → Reachable M w → (x : ℕ) → x < length w.nodes → IsMade w.nodes x

-- ---- sessions

-- what a unit took from each source and sent to each of the tenant's units, along a path
abbrev pub sessions_along : {S : Type 0} → Meaning S → List Node → ℕ → List ℕ → Counts
sessions_along M nodes units path = record {
  outside = taken nodes path Outside;
  units = map
      (λ u. record { taken = taken nodes path (FromUnit u); sent = count_along (execution M nodes).sends u path })
      (numbers_from 0 units);
}

-- the refusal of a receipt that is not the next
abbrev pub refusal_of : Arrival → Option Refusal
refusal_of Next = None
refusal_of Repeat = Some RepeatRefusal
refusal_of Gap = Some GapRefusal

-- The sessions along a unit's path answer as the tests of a receipt's number do, and give the numbers of the unit's
-- next letters.
abbrev pub SessionsTell : {S : Type 0} → Meaning S → Type 0
SessionsTell M = (w : World) → Reachable M w → (u : ℕ) (m : Member) → slice_get w.members u ≡ Some m
    → let c = sessions_along M w.nodes (length w.members) m.path in
    ((source : Source) → IsCounted c source → (taken_from c source ≡ taken w.nodes m.path source)
    × ((number : ℕ) → first_refusal (number_tests w m source number)
    ≡ refusal_of (arrival_of (taken_from c source) number)))
    × ((v : ℕ) → v < length w.members
    → sent_to c v ≡ count_along (executed M w).sends v (line w.nodes (slice_get m.path (length m.path - 1))))

-- the sessions after a receipt from this source, if it is one
abbrev pub taken_one : Counts → Option Source → Counts
taken_one c None = c
taken_one c (Some source) = advanced c source

-- and after these sends, one after another
abbrev pub sent_all : Counts → List (ℕ × List ℕ) → Counts
sent_all c [] = c
sent_all c (s ∷ sends) = sent_all (sent_one c s.0) sends

-- a receipt from this source can be counted
abbrev pub IsCountedOne : Counts → Option Source → Type 0
IsCountedOne c None = Unit {0}
IsCountedOne c (Some source) = IsCounted c source

-- The sessions along a path with one more node are those before it with its receipt and its sends counted,
-- and all of these can be counted.
pub record SessionsGoOnBy {S : Type 0} (M : Meaning S) (w : World) (path : List ℕ) (x : ℕ) : Type 0 where
  pub more : sessions_along M w.nodes (length w.members) (path ++ x ∷ [])
      ≡ sent_all
      (taken_one (sessions_along M w.nodes (length w.members) path) (source_of w.nodes (node_at w.nodes x).cause))
      (from_end (executed M w).sends x [])
  pub source : IsCountedOne (sessions_along M w.nodes (length w.members) path)
      (source_of w.nodes (node_at w.nodes x).cause)
  pub receivers : (j : ℕ) (s : ℕ × List ℕ) → slice_get (from_end (executed M w).sends x []) j ≡ Some s
      → s.0 < length w.members

-- At first a unit's sessions are none, and they go on along its path.
abbrev pub SessionsGoOn : {S : Type 0} → Meaning S → Type 0
SessionsGoOn M = (w : World) → Reachable M w
    → (sessions_along M w.nodes (length w.members) [] ≡ no_counts (length w.members))
    × ((u : ℕ) (m : Member) → slice_get w.members u ≡ Some m → (i x : ℕ) → slice_get m.path i ≡ Some x
    → SessionsGoOnBy M w (take i m.path) x)

-- ---- orphans and what is unstable

-- the first place of a path whose vector is an orphan's is where the path is cut; where there is none, all of it is
-- kept
abbrev pub FirstOrphanCuts : {S : Type 0} → Meaning S → Type 0
FirstOrphanCuts M = (w : World) → Reachable M w → (u : ℕ) (m : Member) → slice_get w.members u ≡ Some m
    → MatchOption (position (is_orphan_by (take (length w.table) w.table)) (map (vector_of w.nodes) m.path))
    (path_kept w m ≡ m.path) (λ i. (path_kept w m ≡ take i m.path) × (i < length m.path))

-- the stable length of each unit
abbrev pub stable_lengths : World → List ℕ
stable_lengths w = map (λ m. m.stable) w.members

-- how many units are unstable by a node's vector is how many have an unstable node in its past
abbrev pub UnstableAreCounted : {S : Type 0} → Meaning S → Type 0
UnstableAreCounted M = (w : World) → Reachable M w → (x : ℕ) → x < length w.nodes
    → (unstable_count w.table (stable_lengths w) (vector_of w.nodes x) ≡ length (unstable_units w x))
    × (length (vector_of w.nodes x) ≤ length (stable_lengths w))

-- ---- output commit

-- how many nodes at the front of a unit's path are firm
abbrev pub frontier : World → Member → ℕ
frontier w m = length (take_while (is_firm w) m.path)

-- that of each unit
abbrev pub frontiers : World → List ℕ
frontiers w = map (frontier w) w.members

-- the held outputs of a unit, each with the mark of its node
abbrev pub held_outputs : {S : Type 0} → Meaning S → World → Member → List Held
held_outputs M w m = map (λ o. record { mark = mark_of (node_at w.nodes o.0); text = o.1 }) (held M w m)

-- there is a first output, and its node is firm
abbrev pub is_first_firm : World → List (ℕ × List ℕ) → Bool
is_first_firm w [] = false
is_first_firm w (o ∷ outputs) = is_firm w o.0

-- A front is firm by the unit's frontier just where there is one and its node is firm;
-- and what can be taken, one after another, are the outputs that can be released.
pub record FrontierTells {S : Type 0} (M : Meaning S) (w : World) (u : ℕ) (m : Member) : Type 0 where
  pub lent : slice_index (frontiers w) u ≡ frontier w m
  pub front : first_is_firm (frontier w m) (held_outputs M w m) ≡ is_first_firm w (held M w m)
  pub all : map (λ h. h.text) (held_below (held_outputs M w m) (frontier w m)) ≡ map (λ o. o.1) (releasable M w m)

abbrev pub FrontiersTell : {S : Type 0} → Meaning S → Type 0
FrontiersTell M = (w : World) → Reachable M w → (u : ℕ) (m : Member) → slice_get w.members u ≡ Some m
    → FrontierTells M w u m

-- ---- volatile logs

-- A unit's volatile log without its first records is that of the unit with so many more stable nodes, and without those
-- that are not below an index that of the unit that went back to there. A kill leaves none, and tells how many there
-- were.
pub record LogsFollow {S : Type 0} (M : Meaning S) (w : World) (m : Member) (name : List ℕ) : Type 0 where
  pub logged : (k : ℕ) → drop k (volatile_records M name w m) ≡ volatile_records M name w (flushed m k)
  pub cut : (i known : ℕ)
      → records_below (volatile_records M name w m) i ≡ volatile_records M name w (back_at m (take i m.path) known)
  pub cleared : volatile_records M name w (killed m) ≡ []
  pub lost : length (volatile_records M name w m) ≡ length m.path - m.stable

abbrev pub VolatileLogsFollow : {S : Type 0} → Meaning S → Type 0
VolatileLogsFollow M = (w : World) → Reachable M w → (u : ℕ) (m : Member) → slice_get w.members u ≡ Some m
    → (name : List ℕ) → LogsFollow M w m name

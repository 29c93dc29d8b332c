-- The laws of one tenant, each of every world that it can come to.
use Rattle.std.specs.Prelude.{◌≡◌, ◌≢◌, ◌⊎◌, ℕ, ◌-◌, ◌<◌, ◌≤◌, Bool, true, false, cond, not, ◌||◌, ◌&&◌, ◌==◌, nat_lt}
use Rattle.std.specs.Prelude.{take, List, [], ◌∷◌, ◌++◌, length, Option, Some, None, slice_get}
use Rattle.std.specs.List.{count_by, take_while, flat_map, list_any, filter, fold}
use Rattle.model.specs.declared.limits.TheConstants.{MAX_INCARNATION}
use Rattle.model.specs.declared.names.Mark.{Mark}
use Rattle.model.specs.declared.names.Row.{Row}
use Rattle.model.specs.Records.{vector_of}
use mathlib.Core.List.{IsPrefix}
use Rattle.model.specs.Handler.{Meaning}
use Rattle.model.specs.Lists.{has, from_end}
use Rattle.model.specs.Nodes.{Node, Cause, began, outside, letter, begun, node_at, line, past, turn_at, count_along}
use Rattle.model.specs.World.{World, Member, executed, is_firm, is_stable, is_lost, is_blind, is_orphan, incarnation_of}
use Rattle.model.specs.World.{held, mark_of, mark_told, mark_lost, greater_mark, greatest_mark, no_mark, past_nodes}
use Rattle.model.specs.World.{receipts}
use Rattle.model.specs.FailureFree.{CertificateHolds}
use Rattle.model.specs.Steps.{is_quota}
use Rattle.model.specs.declared.steps.TenantStep.TheVariants.{Open, Join, Post, Deliver, Flush, Checkpoint, Kill}
use Rattle.model.specs.declared.steps.TenantStep.TheVariants.{Restart, Notice, Release, Status}
use Rattle.model.specs.declared.steps.TenantStep.{TenantStep}
use Rattle.model.specs.declared.replies.End.TheVariants.{Whole}
use Rattle.model.specs.Alone.{Event, step, course_from, alone, Reachable}

-- a firm node stays firm
abbrev pub FirmStays : {S : Type 0} → Meaning S → Type 0
FirmStays M = (v w : World) (e : Event) → Reachable M v → (step M (Some v) e).world ≡ Some w
    → (x : ℕ) → x < length v.nodes → is_firm v x ≡ true → is_firm w x ≡ true

-- no node on a path is lost by the table
abbrev pub PathsKept : {S : Type 0} → Meaning S → Type 0
PathsKept M = (w : World) → Reachable M w → (u : ℕ) (m : Member) → slice_get w.members u ≡ Some m
    → (x : ℕ) → has m.path x ≡ true → is_lost w.table (node_at w.nodes x) ≡ false

-- the certificate is a run without failures that fits the world, and whose outputs begin with those released
abbrev pub CertificateLaw : {S : Type 0} → Meaning S → Type 0
CertificateLaw M = (w : World) → Reachable M w → CertificateHolds M w

-- the outputs of the longest front of a unit's path that is firm
abbrev pub firm_outputs : {S : Type 0} → Meaning S → World → Member → List (List ℕ)
firm_outputs M w m =
    flat_map (λ x. (from_end (executed M w).turns x (begun M m.seat)).outputs) (take_while (is_firm w) m.path)

-- what a unit released is a beginning of those
abbrev pub ReleasedAreFirm : {S : Type 0} → Meaning S → Type 0
ReleasedAreFirm M = (w : World) → Reachable M w → (u : ℕ) (m : Member) → slice_get w.members u ≡ Some m
    → IsPrefix m.released (firm_outputs M w m)

-- Only a release of the unit lengthens its released list, and no step shortens one.
abbrev pub ReleasedGrow : {S : Type 0} → Meaning S → Type 0
ReleasedGrow M = (v w : World) (e : Event) → (step M (Some v) e).world ≡ Some w → (u : ℕ) (m : Member)
    → slice_get v.members u ≡ Some m
    → (n : Member) × (slice_get w.members u ≡ Some n) × IsPrefix m.released n.released
    × (¬ (e.step ≡ Release u) → n.released ≡ m.released)

-- An accepted release leaves just the outputs of the firm front released.
abbrev pub ReleaseIsWhole : {S : Type 0} → Meaning S → Type 0
ReleaseIsWhole M = (v w : World) (e : Event) (u : ℕ) (m : Member) → Reachable M v → slice_get v.members u ≡ Some m
    → m.up ≡ true → e.step ≡ Release u → (step M (Some v) e).world ≡ Some w
    → (n : Member) × (slice_get w.members u ≡ Some n) × (n.released ≡ firm_outputs M v m)

-- a kill, a restart or a notice
abbrev pub recovers : TenantStep → Bool
recovers (Open kinds quota optimism) = false
recovers (Join kind) = false
recovers (Post unit number text) = false
recovers (Deliver l) = false
recovers (Flush unit) = false
recovers (Checkpoint unit) = false
recovers (Kill unit) = true
recovers (Restart unit) = true
recovers (Notice unit) = true
recovers (Release unit) = false
recovers (Status unit) = false

-- each step is one of those, and the store answers whole during it
abbrev pub AllRecover : List Event → Type 0
AllRecover [] = Unit {0}
AllRecover (e ∷ events) = (recovers e.step ≡ true) × (e.said.end ≡ Whole) × AllRecover events

-- how many of the events are of such steps
abbrev pub how_many : (TenantStep → Bool) → List Event → ℕ
how_many p events = length (filter (λ e. p e.step) events)

abbrev pub is_kill : TenantStep → Bool
is_kill (Kill unit) = true
is_kill _ = false

abbrev pub is_restart : TenantStep → Bool
is_restart (Restart unit) = true
is_restart _ = false

abbrev pub is_notice : TenantStep → Bool
is_notice (Notice unit) = true
is_notice _ = false

-- at most one kill, one restart and one notice are among them
pub record OnceEach (events : List Event) : Type 0 where
  pub kills : how_many is_kill events ≤ 1
  pub restarts : how_many is_restart events ≤ 1
  pub notices : how_many is_notice events ≤ 1

-- at most one kill, one restart and one notice, and no other step, lead to a world where the node is off the unit's
-- path
abbrev pub CanGo : {S : Type 0} → Meaning S → World → ℕ → ℕ → Type 0
CanGo M w u x = (events : List Event) × OnceEach events × AllRecover events
    × ((z : World) × ((course_from M (Some w) events).world ≡ Some z)
    × ((m : Member) × (slice_get z.members u ≡ Some m) × (has m.path x ≡ false)))

-- Where an accepted release leaves outputs held and no unit's incarnation is the last,
-- the node of the first held output can go.
abbrev pub HeldCanGo : {S : Type 0} → Meaning S → Type 0
HeldCanGo M = (v w : World) (e : Event) (u : ℕ) (m : Member) → Reachable M v → slice_get v.members u ≡ Some m
    → m.up ≡ true → e.step ≡ Release u → (step M (Some v) e).world ≡ Some w
    → ((y : ℕ) → y < length w.members → incarnation_of w.table y ≢ MAX_INCARNATION)
    → (n : Member) → slice_get w.members u ≡ Some n → (x : ℕ) (text : List ℕ) (rest : List (ℕ × List ℕ))
    → held M w n ≡ (x, text) ∷ rest → CanGo M w u x

-- ---- vectors

-- some mark passes, where the marks are of the units from u on
abbrev pub any_mark : (ℕ → Mark → Bool) → ℕ → List Mark → Bool
any_mark p u [] = false
any_mark p u (g ∷ marks) = p u g || any_mark p (Prim.Native.Nat.suc u) marks

-- The greatest marks of a node's past tell whether it is blind or an orphan, by any front of the table.
abbrev pub VectorsTell : {S : Type 0} → Meaning S → Type 0
VectorsTell M = (w : World) → Reachable M w → (k z : ℕ) → z < length w.nodes
    → (is_blind w.nodes (take k w.table) z
    ≡ any_mark (λ u g. not (mark_told (take k w.table) u g)) 0 (vector_of w.nodes z))
    × (is_orphan w.nodes (take k w.table) z ≡ any_mark (mark_lost (take k w.table)) 0 (vector_of w.nodes z))

-- ---- without optimism

-- where the tenant's optimism is 0, no path has an orphan
abbrev pub NoOrphans : {S : Type 0} → Meaning S → Type 0
NoOrphans M = (w : World) → Reachable M w → w.optimism ≡ 0 → (u : ℕ) (m : Member) → slice_get w.members u ≡ Some m
    → (x : ℕ) → has m.path x ≡ true → is_orphan w.nodes w.table x ≡ false

-- and no notice appends a row
abbrev pub NoNoticeAppends : {S : Type 0} → Meaning S → Type 0
NoNoticeAppends M = (w z : World) (e : Event) (u : ℕ) → Reachable M w → w.optimism ≡ 0 → e.step ≡ Notice u
    → (step M (Some w) e).world ≡ Some z → z.table ≡ w.table

-- ---- the chain law

-- one of the two is the other, or stands before it
abbrev pub OneLine : List Node → ℕ → ℕ → Type 0
OneLine nodes x y = (has (line nodes (Some x)) y ≡ true) ⊎ (has (line nodes (Some y)) x ≡ true)

-- any two nodes of one unit in one past are on one line of predecessors
abbrev pub ChainLaw : {S : Type 0} → Meaning S → Type 0
ChainLaw M = (w : World) → Reachable M w → (z x y : ℕ) → z < length w.nodes → has (past w.nodes z) x ≡ true
    → has (past w.nodes z) y ≡ true
    → (node_at w.nodes x).unit ≡ (node_at w.nodes y).unit → OneLine w.nodes x y

-- Of two nodes of one unit that are not on one line, the one of the lesser incarnation
-- is lost by the rows of each front of the table by which the other is not blind.
abbrev pub ForksAreLost : {S : Type 0} → Meaning S → Type 0
ForksAreLost M = (w : World) → Reachable M w → (x y : ℕ) → x < length w.nodes → y < length w.nodes
    → (node_at w.nodes x).unit ≡ (node_at w.nodes y).unit
    → ¬ OneLine w.nodes x y → (node_at w.nodes x).incarnation ≤ (node_at w.nodes y).incarnation
    → (k : ℕ) → is_blind w.nodes (take k w.table) y ≡ false → is_lost (take k w.table) (node_at w.nodes x) ≡ true

-- ---- whole courses

-- the world of any list of steps is one that the tenant can come to
abbrev pub CoursesReach : {S : Type 0} → Meaning S → Type 0
CoursesReach M = (events : List Event) (w : World) → (alone M events).world ≡ Some w → Reachable M w

-- a tenant that is open stays open
abbrev pub StaysOpen : {S : Type 0} → Meaning S → Type 0
StaysOpen M = (v : World) (e : Event) → (w : World) × ((step M (Some v) e).world ≡ Some w)

-- What is released stays released over all further steps; what is firm stays firm.
abbrev pub ReleasedStay : {S : Type 0} → Meaning S → Type 0
ReleasedStay M = (before after : List Event) (v w : World) → (alone M before).world ≡ Some v
    → (alone M (before ++ after)).world ≡ Some w
    → ((u : ℕ) (m : Member) → slice_get v.members u ≡ Some m
    → (n : Member) × (slice_get w.members u ≡ Some n) × IsPrefix m.released n.released)
    × ((x : ℕ) → x < length v.nodes → is_firm v x ≡ true → is_firm w x ≡ true)

-- ---- how vectors are made

-- the entry for u of the node before
abbrev pub entry_before : List Node → ℕ → Option ℕ → Mark
entry_before nodes u None = no_mark
entry_before nodes u (Some b) = greatest_mark (past_nodes nodes b) u

-- the entry for u of the letter's sender
abbrev pub entry_of_cause : List Node → ℕ → Cause → Mark
entry_of_cause nodes u began = no_mark
entry_of_cause nodes u (outside number text) = no_mark
entry_of_cause nodes u (letter l sender) = greatest_mark (past_nodes nodes sender) u

-- A node's vector is the join of those of the node before it and of its letter's sender, with its own mark set.
abbrev pub VectorsJoin : {S : Type 0} → Meaning S → Type 0
VectorsJoin M = (w : World) → Reachable M w → (x u : ℕ) → x < length w.nodes → let n = node_at w.nodes x in
    greatest_mark (past_nodes w.nodes x) u
    ≡ cond (n.unit == u) (mark_of n)
    (greater_mark (entry_before w.nodes u n.before) (entry_of_cause w.nodes u n.cause))

-- ---- firm by vectors

-- the stable length of a unit, if it is there
abbrev pub stable_of : Option Member → ℕ
stable_of None = 0
stable_of (Some m) = m.stable

-- the mark of the unit is within its stable length, and no row loses it
abbrev pub mark_stable : World → ℕ → Mark → Bool
mark_stable w u g = nat_lt g.index (stable_of (slice_get w.members u)) && not (mark_lost w.table u g)

-- a node is firm where each greatest mark of its past is stable
abbrev pub FirmByVector : {S : Type 0} → Meaning S → Type 0
FirmByVector M = (w : World) → Reachable M w → (x : ℕ) → x < length w.nodes
    → is_firm w x ≡ not (any_mark (λ u g. not (mark_stable w u g)) 0 (vector_of w.nodes x))

-- a unit has an unstable node in a past just where its greatest mark there is not stable
abbrev pub UnstableByVector : {S : Type 0} → Meaning S → Type 0
UnstableByVector M = (w : World) → Reachable M w → (x u : ℕ) (m : Member) → x < length w.nodes
    → slice_get w.members u ≡ Some m
    → list_any (λ y. (node_at w.nodes y).unit == u) (filter (λ y. not (is_stable w.members y)) (past w.nodes x))
    ≡ not (mark_stable w u (greatest_mark (past_nodes w.nodes x) u))

-- ---- paths in place of lines

-- The state of a unit is the fold of the receipts on its path.
abbrev pub StatesAreFolds : {S : Type 0} → Meaning S → Type 0
StatesAreFolds M = (w : World) → Reachable M w → (u : ℕ) (m : Member) → slice_get w.members u ≡ Some m
    → (turn_at M m.seat (executed M w).turns (slice_get m.path (length m.path - 1))).state
    ≡ fold (λ s q. (M.handle m.seat s q.0 q.1).state) (M.begin m.seat) (receipts (executed M w).letters w.nodes m.path)

-- The numbers of a unit's next letters go on from the counts along its path.
abbrev pub NumbersAlongPaths : {S : Type 0} → Meaning S → Type 0
NumbersAlongPaths M = (w : World) → Reachable M w → (u : ℕ) (m : Member) → slice_get w.members u ≡ Some m → (t : ℕ)
    → count_along (executed M w).sends t (line w.nodes (slice_get m.path (length m.path - 1)))
    ≡ count_along (executed M w).sends t m.path

-- a node of a path that is not firm can go, where its unit is up
abbrev pub NotFirmCanGo : {S : Type 0} → Meaning S → Type 0
NotFirmCanGo M = (w : World) → Reachable M w
    → ((y : ℕ) → y < length w.members → incarnation_of w.table y ≢ MAX_INCARNATION)
    → (u : ℕ) (m : Member) → slice_get w.members u ≡ Some m → m.up ≡ true → (x : ℕ) → has m.path x ≡ true
    → is_firm w x ≡ false → CanGo M w u x

-- ---- how much a tenant has

-- how many of the rows are this unit's
abbrev pub rows_of : List Row → ℕ → ℕ
rows_of rows u = count_by (λ r. r.unit == u) rows

-- What a tenant has of each unit is within its quotas and the limits. The quotas themselves are within theirs.
pub record IsWithin {S : Type 0} (M : Meaning S) (w : World) : Type 0 where
  pub quota : is_quota w.quota ≡ true
  pub volatile : (u : ℕ) (m : Member) → slice_get w.members u ≡ Some m → length m.path - m.stable ≤ w.quota.volatile
  pub held : (u : ℕ) (m : Member) → slice_get w.members u ≡ Some m → length (held M w m) ≤ w.quota.held
  pub letters : length (executed M w).letters ≤ w.quota.letters
  pub rows : (u : ℕ) → rows_of w.table u ≤ MAX_INCARNATION

abbrev pub StaysWithin : {S : Type 0} → Meaning S → Type 0
StaysWithin M = (w : World) → Reachable M w → IsWithin M w

-- What each step of a tenant answers and leaves.
use Rattle.std.specs.Prelude.{ℕ, ◌+◌, ◌-◌, Bool, true, false, cond, if◌then◌else◌, not, ◌&&◌, ◌||◌, nat_lt, nat_le, min}
use Rattle.std.specs.Prelude.{List, [], ◌∷◌, ◌++◌, length, take, Option, Some, None, slice_get, slice_set, slice_index}
use Rattle.std.specs.Prelude.{map, is_none}
use Rattle.std.specs.List.{fold, list_any, take_while}
use Rattle.model.specs.declared.limits.TheConstants.{MAX_UNITS, MAX_TEXT_BYTES, MAX_TURN_EFFECTS, MAX_VOLATILE_QUOTA}
use Rattle.model.specs.declared.limits.TheConstants.{MAX_HELD_QUOTA, MAX_LETTERS_QUOTA, MAX_OPTIMISM, MAX_INCARNATION}
use Rattle.model.specs.declared.limits.TheConstants.{MAX_INDEX}
use Rattle.model.specs.declared.names.Seat.{Seat}
use Rattle.model.specs.declared.names.Row.{Row}
use Rattle.model.specs.declared.names.Start.{Start}
use Rattle.model.specs.declared.names.Quota.{Quota}
use Rattle.model.specs.declared.names.Source.{Source}
use Rattle.model.specs.declared.names.Source.TheVariants.{Outside, Unit as FromUnit}
use Rattle.model.specs.declared.refusals.Refusal.{Refusal}
use Rattle.model.specs.declared.refusals.Refusal.TheVariants.{BadOpen, NoUnit, Down, Up, NoLetter, Wait, Orphan, Repeat}
use Rattle.model.specs.declared.refusals.Refusal.TheVariants.{Gap, Quota as OverQuota, TooMuch, Unlogged, Limit, Store}
use Rattle.model.specs.declared.refusals.Refusal.TheVariants.{Memory, Pending}
use Rattle.model.specs.declared.replies.Reply.{Reply}
use Rattle.model.specs.declared.replies.Reply.TheVariants.{Opened, Joined, Accepted, Flushed, Checkpointed, Killed}
use Rattle.model.specs.declared.replies.Reply.TheVariants.{Restarted, Noticed, Released, Status, Stopped, Refused}
use Rattle.model.specs.declared.replies.Said.{Said}
use Rattle.model.specs.declared.replies.End.{End}
use Rattle.model.specs.declared.replies.End.TheVariants.{Whole, Device, Memory as NoMemory}
use Rattle.model.specs.Handler.{Turn, Meaning}
use Rattle.model.specs.Lists.{numbers_from}
use Rattle.model.specs.Nodes.{Node, Cause, began, outside, letter, node_at, Message, next_turn, sends_within}
use Rattle.model.specs.World.{World, Member, executed, mark_of, incarnation_of, is_blind, is_orphan, unstable_units}
use Rattle.model.specs.World.{taken, held, releasable}

-- what a step answers, and the tenant after it, if it is open
pub record Outcome : Type 0 where
  pub reply : Reply
  pub world : Option World

-- a step refused leaves the world as it was
abbrev pub refused : World → Refusal → Outcome
refused w r = record { reply = Refused r; world = Some w }

-- the refusal of the first test that holds
unfoldable pub first_refusal : List (Bool × Refusal) → Option Refusal
first_refusal [] = None
first_refusal (test ∷ tests) = cond test.0 (Some test.1) (first_refusal tests)

-- the outcome, where there is no refusal
abbrev pub outcome_or : World → Outcome → Option Refusal → Outcome
outcome_or w outcome None = outcome
outcome_or w outcome (Some r) = refused w r

-- the outcome, or the refusal of the first test that holds
abbrev pub unless : World → List (Bool × Refusal) → Outcome → Outcome
unless w tests outcome = outcome_or w outcome (first_refusal tests)

-- the outcome for the unit, or `no-unit`
abbrev pub if_unit : World → (Member → Outcome) → Option Member → Outcome
if_unit w outcome None = refused w NoUnit
if_unit w outcome (Some m) = outcome m

unfoldable pub at_unit : World → ℕ → (Member → Outcome) → Outcome
at_unit w u outcome = if_unit w outcome (slice_get w.members u)

abbrev pub is_down : Member → Bool × Refusal
is_down m = (not m.up, Down)

-- the outcome for the unit, if it is up
unfoldable pub at_up : World → ℕ → (Member → Outcome) → Outcome
at_up w u outcome = at_unit w u (λ m. unless w (is_down m ∷ []) (outcome m))

-- the world with this unit as it is now
abbrev pub with_member : World → ℕ → Member → World
with_member w u m = record w { members = slice_set w.members u m }

-- ---- what a step changes of a unit

-- one more node at the end of its path
abbrev pub with_place : Member → ℕ → Member
with_place m place = record m { path = m.path ++ place ∷ [] }

-- so many more of its nodes are stable
abbrev pub flushed : Member → ℕ → Member
flushed m count = record m { stable = m.stable + count }

-- its path is cut to its stable length, and it is down
abbrev pub killed : Member → Member
killed m = record m { path = take m.stable m.path; up = false }

-- it is up again at the end of this front of its path, and knows so many rows
abbrev pub back_at : Member → List ℕ → ℕ → Member
back_at m path known = record m { path = path; stable = min m.stable (length path); up = true; known = known }

-- it knows so many rows
abbrev pub with_known : Member → ℕ → Member
with_known m known = record m { known = known }

-- these outputs are released too
abbrev pub with_released : Member → List (List ℕ) → Member
with_released m outputs = record m { released = m.released ++ outputs }

-- ---- post and deliver

-- the node that a receipt of this unit makes
abbrev pub next_node : World → ℕ → Member → Cause → Node
next_node w u m cause = record {
  unit = u;
  seat = m.seat;
  incarnation = incarnation_of w.table u;
  index = length m.path;
  before = slice_get m.path (length m.path - 1);
  cause = cause;
  units = length w.members;
}

-- the world after a receipt: one more node, at the end of the unit's path
abbrev pub with_receipt : World → ℕ → Member → Cause → World
with_receipt w u m cause =
    record (with_member w u (with_place m (length w.nodes))) { nodes = next_node w u m cause ∷ w.nodes }

abbrev pub is_long : List ℕ → Bool
is_long text = nat_lt MAX_TEXT_BYTES (length text)

-- the turn that a receipt would have
abbrev pub turn_upon_receipt : {S : Type 0} → Meaning S → World → ℕ → Member → Cause → Turn S
turn_upon_receipt M w u m cause = next_turn M m.seat (executed M w) (next_node w u m cause).before cause

-- the receipt's number is compared with how many the path has from its source
abbrev pub number_tests : World → Member → Source → ℕ → List (Bool × Refusal)
number_tests w m source number =
    let count = taken w.nodes m.path source in
    (nat_lt number count, Repeat) ∷ (nat_lt count number, Gap) ∷ []

-- whether there is room for one more receipt
abbrev pub room_tests : World → Member → List ℕ → List (Bool × Refusal)
room_tests w m text =
    (nat_le MAX_INDEX (length m.path - 1), Limit)
    ∷ (nat_le w.quota.volatile (length m.path - m.stable), OverQuota)
    ∷ (is_long text, TooMuch)
    ∷ []

abbrev pub is_large : {S : Type 0} → Turn S → Bool
is_large turn =
    nat_lt MAX_TURN_EFFECTS (length turn.sends + length turn.outputs)
    || (list_any (λ s. is_long s.1) turn.sends || list_any is_long turn.outputs)

-- whether the turn can be taken
abbrev pub turn_tests : {S : Type 0} → Meaning S → World → Member → Turn S → List (Bool × Refusal)
turn_tests M w m turn =
    (is_large turn, TooMuch)
    ∷ (nat_lt w.quota.held (length (held M w m) + length turn.outputs), OverQuota)
    ∷ (
      nat_lt w.quota.letters (length (executed M w).letters + length (sends_within (length w.members) turn)),
      OverQuota,
    )
    ∷ []

-- the answer tells the new mark, how many outputs are held then, and the letters made
abbrev pub accepted : {S : Type 0} → Meaning S → World → ℕ → Member → Cause → Outcome
accepted M w u m cause =
    let turn = turn_upon_receipt M w u m cause in
    record {
      reply = Accepted (mark_of (next_node w u m cause)) (length (held M w m) + length turn.outputs)
          (numbers_from (length (executed M w).letters) (length (sends_within (length w.members) turn)));
      world = Some (with_receipt w u m cause);
    }

-- the tests of a post before its turn
abbrev pub post_front : World → Member → ℕ → List ℕ → List (Bool × Refusal)
post_front w m number text = is_down m ∷ (number_tests w m Outside number ++ room_tests w m text)

abbrev pub post_to : {S : Type 0} → Meaning S → World → ℕ → ℕ → List ℕ → Member → Outcome
post_to M w u number text m =
    let cause = outside number text in
    unless w (post_front w m number text ++ turn_tests M w m (turn_upon_receipt M w u m cause)) (accepted M w u m cause)

abbrev pub post : {S : Type 0} → Meaning S → World → ℕ → ℕ → List ℕ → Outcome
post M w u number text = at_unit w u (post_to M w u number text)

-- the tests of a delivery before its turn
abbrev pub deliver_front : World → Message → Member → List (Bool × Refusal)
deliver_front w received m =
    is_down m
    ∷ (is_blind w.nodes (take m.known w.table) received.sender, Wait)
    ∷ (is_orphan w.nodes (take m.known w.table) received.sender, Orphan)
    ∷ (nat_lt w.optimism (length (unstable_units w received.sender)), Pending)
    ∷ (number_tests w m (FromUnit received.source) received.number ++ room_tests w m received.text)

abbrev pub deliver_to : {S : Type 0} → Meaning S → World → ℕ → Message → Member → Outcome
deliver_to M w l received m =
    let cause = letter l received.sender in
    unless w (deliver_front w received m ++ turn_tests M w m (turn_upon_receipt M w received.receiver m cause))
    (accepted M w received.receiver m cause)

abbrev pub if_letter : {S : Type 0} → Meaning S → World → ℕ → Option Message → Outcome
if_letter M w l None = refused w NoLetter
if_letter M w l (Some received) = at_unit w received.receiver (deliver_to M w l received)

abbrev pub deliver : {S : Type 0} → Meaning S → World → ℕ → Outcome
deliver M w l = if_letter M w l (slice_get (executed M w).letters l)

-- ---- flush, checkpoint, kill

-- why a flush stopped
abbrev pub flush_reply : End → ℕ → Reply
flush_reply Whole count = Flushed count
flush_reply Device count = Stopped count Store
flush_reply NoMemory count = Stopped count Memory

-- as many more nodes are stable as records were appended, at most those that are volatile
abbrev pub flush : World → ℕ → Said → Outcome
flush w u said = at_up w u (λ m.
    let count = min said.appended (length m.path - m.stable) in
    record {
      reply = flush_reply said.end count;
      world = Some (with_member w u (flushed m count));
    })

abbrev pub last_node : World → Member → Node
last_node w m = node_at w.nodes (slice_index m.path (length m.path - 1))

abbrev pub checkpoint : World → ℕ → Outcome
checkpoint w u = at_up w u (λ m.
    unless w ((nat_lt m.stable (length m.path), Unlogged) ∷ []) (record {
      reply = Checkpointed (mark_of (last_node w m));
      world = Some w;
    }))

abbrev pub kill : World → ℕ → Outcome
kill w u = at_up w u (λ m. record {
  reply = Killed (length m.path - m.stable);
  world = Some (with_member w u (killed m));
})

-- ---- restart and notice

-- the path up to its first orphan, by all rows of the table
abbrev pub path_kept : World → Member → List ℕ
path_kept w m = take_while (λ x. not (is_orphan w.nodes w.table x)) m.path

-- the row that a unit appends when it goes back to this path: a new incarnation from its length on
abbrev pub row_for : World → ℕ → List ℕ → Row
row_for w u path = record { unit = u; incarnation = incarnation_of w.table u + 1; start = length path }

abbrev pub start_of : Row → Start
start_of r = record { incarnation = r.incarnation; index = r.start }

-- the world after a unit went back to this path: it is up, its row is in the table, and it knows all rows
abbrev pub gone_back : World → ℕ → Member → List ℕ → World
gone_back w u m path =
    record (with_member w u (back_at m path (length w.table + 1))) { table = w.table ++ row_for w u path ∷ [] }

abbrev pub is_device : End → Bool
is_device Whole = false
is_device Device = true
is_device NoMemory = false

-- a new incarnation is due, and the store may fail to give the records
abbrev pub going_back_tests : World → ℕ → Said → List (Bool × Refusal)
going_back_tests w u said =
    (nat_le MAX_INCARNATION (incarnation_of w.table u), Limit) ∷ (is_device said.end, Store) ∷ []

abbrev pub restart : World → ℕ → Said → Outcome
restart w u said = at_unit w u (λ m.
    unless w ((m.up, Up) ∷ going_back_tests w u said) (record {
      reply = Restarted (start_of (row_for w u (path_kept w m)));
      world = Some (gone_back w u m (path_kept w m));
    }))

-- a unit with an orphan on its path goes back
abbrev pub notice_orphan : World → ℕ → Said → Member → Outcome
notice_orphan w u said m = unless w (going_back_tests w u said) (record {
  reply = Noticed (Some (start_of (row_for w u (path_kept w m))));
  world = Some (gone_back w u m (path_kept w m));
})

-- any other only learns the rows
abbrev pub notice_rows : World → ℕ → Member → Outcome
notice_rows w u m = record {
  reply = Noticed None;
  world = Some (with_member w u (with_known m (length w.table)));
}

abbrev pub notice : World → ℕ → Said → Outcome
notice w u said = at_up w u (λ m.
    if nat_lt (length (path_kept w m)) (length m.path) then notice_orphan w u said m else notice_rows w u m)

-- ---- release and status

abbrev pub release : {S : Type 0} → Meaning S → World → ℕ → Outcome
release M w u = at_up w u (λ m.
    let outputs = map (λ o. o.1) (releasable M w m) in
    record {
      reply = Released outputs;
      world = Some (with_member w u (with_released m outputs));
    })

abbrev pub status : {S : Type 0} → Meaning S → World → ℕ → Outcome
status M w u = at_unit w u (λ m. record {
  reply = Status m.up (mark_of (last_node w m)) (length (held M w m)) m.known
      (taken w.nodes m.path Outside) (length m.released) (length w.table)
      (m.stable - 1) (length m.path - m.stable);
  world = Some w;
})

-- ---- open and join

-- a unit at its beginning: the one node of its path is at this place
abbrev pub fresh : Seat → ℕ → ℕ → Member
fresh seat place known = record { seat = seat; path = place ∷ []; stable = 1; up = true; known = known; released = [] }

abbrev pub beginning : Seat → ℕ → Node
beginning seat units =
    record { unit = seat.unit; seat = seat; incarnation = 0; index = 0; before = None; cause = began; units = units }

-- one unit after another, each at its beginning
abbrev pub with_unit : ℕ → World → ℕ → World
with_unit home w kind =
    let seat : Seat = record { unit = length w.members; kind = kind; home = home } in
    record w {
      members = w.members ++ fresh seat (length w.nodes) (length w.table) ∷ [];
      nodes = beginning seat home ∷ w.nodes;
    }

abbrev pub join_kind : World → Option ℕ → Outcome
join_kind w None = refused w BadOpen
join_kind w (Some kind) = unless w ((nat_le MAX_UNITS (length w.members), Limit) ∷ []) (record {
  reply = Joined (length w.members);
  world = Some (with_unit (length w.members + 1) w kind);
})

abbrev pub join : {S : Type 0} → Meaning S → World → List ℕ → Outcome
join M w name = join_kind w (M.kind name)

abbrev pub within : ℕ → ℕ → ℕ → Bool
within low x high = nat_le low x && nat_le x high

abbrev pub is_quota : Quota → Bool
is_quota q =
    within 1 q.volatile MAX_VOLATILE_QUOTA && (within 1 q.held MAX_HELD_QUOTA && within 1 q.letters MAX_LETTERS_QUOTA)

abbrev pub kind_or_0 : Option ℕ → ℕ
kind_or_0 None = 0
kind_or_0 (Some kind) = kind

-- 1 to 16 kinds that the handler knows, and limits in their range
abbrev pub can_open : {S : Type 0} → Meaning S → List (List ℕ) → Quota → ℕ → Bool
can_open M names quota optimism =
    within 1 (length names) MAX_UNITS
    && (not (list_any (λ n. is_none (M.kind n)) names) && (is_quota quota && nat_le optimism MAX_OPTIMISM))

-- every unit at its beginning, and nothing known, released or lost
abbrev pub opened_with : {S : Type 0} → Meaning S → List (List ℕ) → Quota → ℕ → Outcome
opened_with M names quota optimism = record {
  reply = Opened (length names);
  world = Some (fold (λ w n. with_unit (length names) w (kind_or_0 (M.kind n))) (record {
    quota = quota;
    optimism = optimism;
    members = [];
    nodes = [];
    table = [];
  }) names);
}

abbrev pub open_new : {S : Type 0} → Meaning S → List (List ℕ) → Quota → ℕ → Outcome
open_new M names quota optimism =
    if can_open M names quota optimism
    then opened_with M names quota optimism
    else record { reply = Refused BadOpen; world = None }

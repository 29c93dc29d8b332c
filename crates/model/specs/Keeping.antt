-- What is kept of a tenant's past: the checkpoints of its units, and what is behind the greatest that is firm.
use Rattle.std.specs.Prelude.{ℕ, suc, ◌+◌, ◌-◌, Bool, false, cond, not, ◌&&◌, ◌||◌, ◌==◌, nat_lt, List, [], ◌∷◌, ◌++◌}
use Rattle.std.specs.Prelude.{length, take, drop, replicate, Option, Some, None, slice_get, slice_set}
use Rattle.std.specs.List.{count_by, enumerate_from, filter, fold, list_any, take_while}
use Rattle.model.specs.declared.limits.TheConstants.{MAX_CHECKPOINTS}
use Rattle.model.specs.declared.kept.Kept.{Kept}
use Rattle.model.specs.declared.replies.Reply.{Reply}
use Rattle.model.specs.declared.replies.Reply.TheVariants.{Opened, Joined, Flushed, Checkpointed, Restarted, Noticed}
use Rattle.model.specs.declared.replies.Reply.TheVariants.{Stopped}
use Rattle.model.specs.declared.steps.TenantStep.{TenantStep}
use Rattle.model.specs.declared.steps.TenantStep.TheVariants.{Open, Join, Post, Deliver, Flush, Checkpoint, Kill}
use Rattle.model.specs.declared.steps.TenantStep.TheVariants.{Restart, Notice, Release, Status}
use Rattle.model.specs.Alone.{Event, step}
use Rattle.model.specs.Handler.{Meaning}
use Rattle.model.specs.Lists.{has}
use Rattle.model.specs.Nodes.{Cause, Message, Node, began, letter, node_at, outside}
use Rattle.model.specs.World.{Member, World, executed, is_firm}

-- ---- the checkpoints of a unit

-- Their indices: the base, which is firm, and the others in the order of putting. Until a checkpoint behind it takes
-- its place the base is the beginning, at 0, which is a checkpoint once one was put there.
pub record Shelf : Type 0 where
  pub base : ℕ
  pub first_put : Bool
  pub others : List ℕ

abbrev pub first_shelf : Shelf
first_shelf = record { base = 0; first_put = false; others = [] }

-- as many others as may be kept: then the one first put goes
abbrev pub with_room : List ℕ → List ℕ
with_room others = cond (nat_lt (length others) MAX_CHECKPOINTS) others (drop 1 others)

-- whether one was put at the beginning
abbrev pub marked : ℕ → Shelf → Shelf
marked index s = record s { first_put = s.first_put || (index == 0) }

-- one more; one at an index that is shelved leaves the others as they are
abbrev pub put : ℕ → Shelf → Shelf
put index s =
    let m = marked index s in
    cond ((s.base == index) || has s.others index) m (record m { others = with_room m.others ++ index ∷ [] })

-- those of a path of this length
abbrev pub cut : ℕ → Shelf → Shelf
cut n s = record s { others = take_while (λ i. nat_lt i n) s.others }

-- the index, where it is below n, else the best so far
abbrev pub later : ℕ → ℕ → ℕ → ℕ
later n best index = cond (nat_lt index n) index best

-- The last one below n is the base, and those above it stay.
abbrev pub based : ℕ → Shelf → Shelf
based n s =
    let base = fold (later n) s.base s.others in
    record s { base = base; others = filter (nat_lt base) s.others }

-- how many intervals of the path are firm, up to the first that is not
abbrev pub firm_length : World → Member → ℕ
firm_length w m = length (take_while (is_firm w) m.path)

-- ---- those of all units

-- the greatest that is firm is the base, of each of these units
abbrev pub all_based : World → List Member → List Shelf → List Shelf
all_based w [] shelves = shelves
all_based w (m ∷ members) [] = []
all_based w (m ∷ members) (s ∷ shelves) = based (firm_length w m) s ∷ all_based w members shelves

abbrev pub changed_if : (Shelf → Shelf) → ℕ → List Shelf → Option Shelf → List Shelf
changed_if f u shelves None = shelves
changed_if f u shelves (Some s) = slice_set shelves u (f s)

-- this change of one unit's
abbrev pub changed : (Shelf → Shelf) → ℕ → List Shelf → List Shelf
changed f u shelves = changed_if f u shelves (slice_get shelves u)

-- the index of the unit's last interval
abbrev pub last_index : Option Member → ℕ
last_index None = 0
last_index (Some m) = length m.path - 1

-- ---- after a step, by its reply and the world that it left

-- a checkpoint of the last interval is put, and then the bases move
abbrev pub after_checkpoint : World → ℕ → Reply → List Shelf → List Shelf
after_checkpoint z u (Checkpointed at) shelves =
    all_based z z.members (changed (put (last_index (slice_get z.members u))) u shelves)
after_checkpoint z u _ shelves = shelves

-- the bases move where records were added
abbrev pub where_added : World → ℕ → List Shelf → List Shelf
where_added z count shelves = cond (nat_lt 0 count) (all_based z z.members shelves) shelves

abbrev pub after_flush : World → Reply → List Shelf → List Shelf
after_flush z (Flushed count) shelves = where_added z count shelves
after_flush z (Stopped count refusal) shelves = where_added z count shelves
after_flush z _ shelves = shelves

-- those of the path that is kept stay
abbrev pub after_return : ℕ → Reply → List Shelf → List Shelf
after_return u (Restarted start) shelves = changed (cut start.index) u shelves
after_return u (Noticed (Some start)) shelves = changed (cut start.index) u shelves
after_return u _ shelves = shelves

-- one unit more
abbrev pub after_join : Reply → List Shelf → List Shelf
after_join (Joined u) shelves = shelves ++ first_shelf ∷ []
after_join _ shelves = shelves

-- so many units
abbrev pub after_open : Reply → List Shelf → List Shelf
after_open (Opened units) shelves = replicate units first_shelf
after_open _ shelves = shelves

abbrev pub shelves_after : World → TenantStep → Reply → List Shelf → List Shelf
shelves_after z (Open kinds quota optimism) reply shelves = after_open reply shelves
shelves_after z (Join kind) reply shelves = after_join reply shelves
shelves_after z (Post u number text) reply shelves = shelves
shelves_after z (Deliver l) reply shelves = shelves
shelves_after z (Flush u) reply shelves = after_flush z reply shelves
shelves_after z (Checkpoint u) reply shelves = after_checkpoint z u reply shelves
shelves_after z (Kill u) reply shelves = shelves
shelves_after z (Restart u) reply shelves = after_return u reply shelves
shelves_after z (Notice u) reply shelves = after_return u reply shelves
shelves_after z (Release u) reply shelves = shelves
shelves_after z (Status u) reply shelves = shelves

-- ---- over a tenant's own pairs

-- a tenant's world, and the checkpoints of its units
pub record Keeping : Type 0 where
  pub world : Option World
  pub shelves : List Shelf

abbrev pub shelves_in : Option World → TenantStep → Reply → List Shelf → List Shelf
shelves_in None step reply shelves = []
shelves_in (Some z) step reply shelves = shelves_after z step reply shelves

abbrev pub keeping_on : {S : Type 0} → Meaning S → Keeping → Event → Keeping
keeping_on M k e =
    let outcome = step M k.world e in
    record { world = outcome.world; shelves = shelves_in outcome.world e.step outcome.reply k.shelves }

abbrev pub keeping : {S : Type 0} → Meaning S → List Event → Keeping
keeping M events = fold (keeping_on M) (record { world = None; shelves = [] }) events

-- ---- what is kept

abbrev pub receives : ℕ → Cause → Bool
receives l began = false
receives l (outside number text) = false
receives l (letter n sender) = n == l

-- some node at these places received the letter
abbrev pub received_at : List Node → List ℕ → ℕ → Bool
received_at nodes places l = list_any (λ x. receives l (node_at nodes x).cause) places

-- An interval of the path up to the base received the letter.
abbrev pub received_for_good : World → Member → Shelf → ℕ → Bool
received_for_good w m s l = received_at w.nodes (take (suc s.base) m.path) l

-- the letter is to the unit, and its text is kept
abbrev pub keeps_letter : World → ℕ → Member → Shelf → ℕ × Message → Bool
keeps_letter w u m s l = (l.1.receiver == u) && not (received_for_good w m s l.0)

-- a base is a checkpoint, but for a beginning at which none was put
abbrev pub base_count : ℕ → Bool → ℕ
base_count base first_put = cond ((base == 0) && not first_put) 0 1

-- the live records are those of the stable intervals behind the base
abbrev pub kept_behind : {S : Type 0} → Meaning S → World → ℕ → Member → Shelf → Kept
kept_behind M w u m s = record {
  records = m.stable - 1 - s.base;
  shelved = length s.others + base_count s.base s.first_put;
  letters = count_by (keeps_letter w u m s) (enumerate_from 0 (executed M w).letters);
}

abbrev pub kept_if : {S : Type 0} → Meaning S → World → ℕ → Option Member → Option Shelf → Option Kept
kept_if M w u None shelf = None
kept_if M w u (Some m) None = None
kept_if M w u (Some m) (Some s) = Some (kept_behind M w u m s)

-- what is kept of this unit's past, if the unit is there
abbrev pub kept_in : {S : Type 0} → Meaning S → World → List Shelf → ℕ → Option Kept
kept_in M w shelves u = kept_if M w u (slice_get w.members u) (slice_get shelves u)

abbrev pub kept_of : {S : Type 0} → Meaning S → Option World → List Shelf → ℕ → Option Kept
kept_of M None shelves u = None
kept_of M (Some w) shelves u = kept_in M w shelves u

abbrev pub kept_at : {S : Type 0} → Meaning S → Keeping → ℕ → Option Kept
kept_at M k u = kept_of M k.world k.shelves u

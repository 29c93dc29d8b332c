-- Further worked examples: limits, stores that fail, checkpoints, optimism, joins and certificates.
use Rattle.std.proofs.Common.{◌≡◌, refl, ℕ, zero, suc, drop, map}
use Rattle.std.specs.Prelude.{false, List, [], ◌∷◌, ◌++◌, Some, None, codes, decimal, replicate, Ok}
use Rattle.std.specs.Fmt.{digits}
use Rattle.model.specs.declared.limits.TheConstants.{MAX_INCARNATION}
use Rattle.model.specs.declared.refusals.Refusal.TheVariants.{NoTenant, BadOpen, Wait, Orphan, Repeat, TooMuch, Limit}
use Rattle.model.specs.declared.refusals.Refusal.TheVariants.{Store, Pending}
use Rattle.model.specs.declared.replies.Reply.TheVariants.{Opened, Joined, Accepted, Flushed, Checkpointed, Killed}
use Rattle.model.specs.declared.replies.Reply.TheVariants.{Restarted, Noticed, Released, Status, Stopped, Refused}
use Rattle.model.specs.declared.replies.End.TheVariants.{Device}
use Rattle.model.specs.declared.steps.TenantStep.TheVariants.{Open, Join, Flush, Checkpoint, Kill, Restart, Notice}
use Rattle.model.specs.declared.steps.TenantStep.TheVariants.{Release, Status as ReadStatus}
use Rattle.model.specs.declared.moves.Move.TheVariants.{Outside, Letter, Join as JoinMove}
use Rattle.model.specs.Alone.{Event, alone}
use Rattle.model.specs.FailureFree.{failure_free}
use Rattle.model.specs.Lists.{numbers_from}
use Rattle.model.specs.Nodes.{began}
use Rattle.model.specs.Sample.{sample}
use Rattle.model.specs.Steps.{first_refusal, at_unit, at_up, restart}
use Rattle.model.specs.World.{World}
use Rattle.model.specs.Records.{quiet}
use Rattle.model.proofs.Rows.{asks, flush, post, deliver, opening, at, start, replies, certificate_after, outputs_of}
use Rattle.model.proofs.Rows.{relay_and_echo, vector_after}

-- an opening with this degree of optimism
abbrev opening_at : ℕ → List (List ℕ) → Event
opening_at optimism kinds = asks (Open kinds (record { volatile = 1024; held = 1024; letters = 1000000 }) optimism)

abbrev relay : List ℕ
relay = codes "relay"

abbrev echo : List ℕ
echo = codes "echo"

text_limit : replies (
    opening (echo ∷ [])
    ∷ post 0 0 (replicate 4097 120)
    ∷ post 0 0 (replicate 4096 120)
    ∷ []) ≡
    (Opened 1
    ∷ Refused TooMuch
    ∷ Accepted (at 0 1) 1 []
    ∷ [])
unfolding first_refusal at_unit at_up
text_limit = refl

kinds_limit : replies (
    opening (replicate 17 echo)
    ∷ opening []
    ∷ opening (replicate 16 echo)
    ∷ []) ≡
    (Refused BadOpen
    ∷ Refused BadOpen
    ∷ Opened 16
    ∷ [])
unfolding first_refusal at_unit at_up
kinds_limit = refl

-- the store's device fails in the second append, and in the first fetch
store_fails : replies (
    opening (echo ∷ [])
    ∷ post 0 0 (codes "x")
    ∷ post 0 1 (codes "x")
    ∷ post 0 2 (codes "x")
    ∷ record { step = Flush 0; said = record { appended = 1; end = Device } }
    ∷ flush 0 2
    ∷ asks (Kill 0)
    ∷ record { step = Restart 0; said = record { appended = 0; end = Device } }
    ∷ asks (ReadStatus 0)
    ∷ asks (Restart 0)
    ∷ []) ≡
    (Opened 1
    ∷ Accepted (at 0 1) 1 []
    ∷ Accepted (at 0 2) 2 []
    ∷ Accepted (at 0 3) 3 []
    ∷ Stopped 1 Store
    ∷ Flushed 2
    ∷ Killed 0
    ∷ Refused Store
    ∷ Status false (at 0 3) 3 0 3 0 0 3 0
    ∷ Restarted (start 1 4)
    ∷ [])
unfolding first_refusal at_unit at_up
store_fails = refl

-- a unit whose incarnation is the last
abbrev last_incarnation : World
last_incarnation = record {
  quota = record { volatile = 1; held = 1; letters = 1 };
  optimism = 16;
  members = record {
    seat = record { unit = 0; kind = 0; home = 1 };
    path = 0 ∷ [];
    stable = 1;
    up = false;
    known = 1;
    released = [];
  } ∷ [];
  nodes = record {
    unit = 0;
    seat = record { unit = 0; kind = 0; home = 1 };
    incarnation = 0;
    index = 0;
    before = None;
    cause = began;
    units = 1;
  } ∷ [];
  table = record { unit = 0; incarnation = MAX_INCARNATION; start = 1 } ∷ [];
}

incarnation_limit : (restart last_incarnation 0 quiet).reply ≡ Refused Limit
unfolding first_refusal at_unit
incarnation_limit = refl

checkpoint_then_orphan : replies (
    opening (relay ∷ echo ∷ [])
    ∷ post 0 0 (codes "x")
    ∷ deliver 0
    ∷ flush 1 1
    ∷ asks (Checkpoint 1)
    ∷ asks (Kill 0)
    ∷ asks (Restart 0)
    ∷ deliver 0
    ∷ asks (Notice 1)
    ∷ deliver 0
    ∷ asks (Release 1)
    ∷ asks (Kill 1)
    ∷ asks (Restart 1)
    ∷ []) ≡
    (Opened 2
    ∷ Accepted (at 0 1) 0 (0 ∷ [])
    ∷ Accepted (at 0 1) 1 []
    ∷ Flushed 1
    ∷ Checkpointed (at 0 1)
    ∷ Killed 1
    ∷ Restarted (start 1 1)
    ∷ Refused Repeat
    ∷ Noticed (Some (start 1 1))
    ∷ Refused Orphan
    ∷ Released []
    ∷ Killed 0
    ∷ Restarted (start 2 1)
    ∷ [])
unfolding first_refusal at_unit at_up
checkpoint_then_orphan = refl

-- a post, a flush and a checkpoint, so often
abbrev rounds : ℕ → ℕ → List Event
rounds k zero = []
rounds k (suc n) = post 0 k (codes "x") ∷ flush 0 1 ∷ asks (Checkpoint 0) ∷ rounds (suc k) n

sixty_five_checkpoints : drop 196 (replies (
    (opening (codes "count" ∷ []) ∷ rounds 0 65)
    ++ asks (Kill 0)
    ∷ asks (Restart 0)
    ∷ post 0 65 (codes "x")
    ∷ flush 0 1
    ∷ asks (Release 0)
    ∷ [])) ≡
    (Killed 0
    ∷ Restarted (start 1 66)
    ∷ Accepted (at 1 66) 66 []
    ∷ Flushed 1
    ∷ Released (map decimal (numbers_from 1 66))
    ∷ [])
unfolding first_refusal at_unit at_up digits
sixty_five_checkpoints = refl

output_waits_for_all : replies (
    opening (relay ∷ relay ∷ relay ∷ echo ∷ [])
    ∷ post 0 0 (codes "r")
    ∷ deliver 0
    ∷ deliver 1
    ∷ deliver 2
    ∷ flush 3 1
    ∷ asks (Release 3)
    ∷ flush 2 1
    ∷ asks (Release 3)
    ∷ flush 1 1
    ∷ asks (Release 3)
    ∷ flush 0 1
    ∷ asks (Release 3)
    ∷ []) ≡
    (Opened 4
    ∷ Accepted (at 0 1) 0 (0 ∷ [])
    ∷ Accepted (at 0 1) 0 (1 ∷ [])
    ∷ Accepted (at 0 1) 0 (2 ∷ [])
    ∷ Accepted (at 0 1) 1 []
    ∷ Flushed 1
    ∷ Released []
    ∷ Flushed 1
    ∷ Released []
    ∷ Flushed 1
    ∷ Released []
    ∷ Flushed 1
    ∷ Released (codes "r" ∷ [])
    ∷ [])
unfolding first_refusal at_unit at_up
output_waits_for_all = refl

no_optimism : replies (
    opening_at 0 (relay ∷ echo ∷ [])
    ∷ post 0 0 (codes "x")
    ∷ deliver 0
    ∷ flush 0 1
    ∷ deliver 0
    ∷ asks (Kill 0)
    ∷ asks (Restart 0)
    ∷ asks (Notice 1)
    ∷ flush 1 1
    ∷ asks (Release 1)
    ∷ []) ≡
    (Opened 2
    ∷ Accepted (at 0 1) 0 (0 ∷ [])
    ∷ Refused Pending
    ∷ Flushed 1
    ∷ Accepted (at 0 1) 1 []
    ∷ Killed 0
    ∷ Restarted (start 1 2)
    ∷ Noticed None
    ∷ Flushed 1
    ∷ Released (codes "x" ∷ [])
    ∷ [])
unfolding first_refusal at_unit at_up
no_optimism = refl

pending_after_a_kill : replies (
    opening_at 0 (relay ∷ echo ∷ [])
    ∷ post 0 0 (codes "x")
    ∷ asks (Kill 0)
    ∷ asks (Restart 0)
    ∷ deliver 0
    ∷ post 0 0 (codes "y")
    ∷ deliver 1
    ∷ asks (Notice 1)
    ∷ deliver 0
    ∷ deliver 1
    ∷ []) ≡
    (Opened 2
    ∷ Accepted (at 0 1) 0 (0 ∷ [])
    ∷ Killed 1
    ∷ Restarted (start 1 1)
    ∷ Refused Pending
    ∷ Accepted (at 1 1) 0 (1 ∷ [])
    ∷ Refused Wait
    ∷ Noticed None
    ∷ Refused Orphan
    ∷ Refused Pending
    ∷ [])
unfolding first_refusal at_unit at_up
pending_after_a_kill = refl

one_unstable_unit : replies (
    opening_at 1 (relay ∷ relay ∷ relay ∷ [])
    ∷ post 0 0 (codes "r")
    ∷ deliver 0
    ∷ deliver 1
    ∷ flush 1 1
    ∷ deliver 1
    ∷ []) ≡
    (Opened 3
    ∷ Accepted (at 0 1) 0 (0 ∷ [])
    ∷ Accepted (at 0 1) 0 (1 ∷ [])
    ∷ Refused Pending
    ∷ Flushed 1
    ∷ Accepted (at 0 1) 0 (2 ∷ [])
    ∷ [])
unfolding first_refusal at_unit at_up
one_unstable_unit = refl

optimism_limit : replies (opening_at 17 (echo ∷ []) ∷ opening_at 16 (echo ∷ []) ∷ [])
    ≡ (Refused BadOpen ∷ Opened 1 ∷ [])
optimism_limit = refl

join_limits : replies (
    asks (Join echo)
    ∷ opening (replicate 15 echo)
    ∷ asks (Join (codes "other"))
    ∷ asks (Join echo)
    ∷ asks (Join echo)
    ∷ []) ≡
    (Refused NoTenant
    ∷ Opened 15
    ∷ Refused BadOpen
    ∷ Joined 15
    ∷ Refused Limit
    ∷ [])
unfolding first_refusal at_unit at_up
join_limits = refl

-- the moves of a join, in another order
join_first : outputs_of (failure_free sample (record { unit = 0; kind = 4; home = 1 } ∷ [])
    (JoinMove 0 ∷ Outside 0 (codes "x") ∷ Outside 0 (codes "y") ∷ Letter 1 0 ∷ []))
    ≡ Ok ((codes "x" ∷ codes "y" ∷ []) ∷ (codes "x" ∷ []) ∷ [])
join_first = refl

-- the run without moves puts out nothing, so a released output differs from it
nothing_put_out : outputs_of (failure_free sample relay_and_echo (Outside 0 (codes "x") ∷ [])) ≡ Ok ([] ∷ [] ∷ [])
nothing_put_out = refl

vectors_round_a_join : vector_after 1 (alone sample
    (opening (codes "tee" ∷ []) ∷ post 0 0 (codes "x") ∷ asks (Join echo) ∷ post 0 1 (codes "y") ∷ [])).world
    ≡ at 0 1 ∷ []
unfolding first_refusal at_unit at_up
vectors_round_a_join = refl

vector_after_a_join : vector_after 3 (alone sample
    (opening (codes "tee" ∷ []) ∷ post 0 0 (codes "x") ∷ asks (Join echo) ∷ post 0 1 (codes "y") ∷ [])).world
    ≡ at 0 2 ∷ at 0 0 ∷ []
unfolding first_refusal at_unit at_up
vector_after_a_join = refl

certificate_after_a_kill : certificate_after (alone sample (
    opening (relay ∷ echo ∷ []) ∷ post 0 0 (codes "x") ∷ deliver 0 ∷ flush 1 1 ∷ asks (Kill 0) ∷ asks (Restart 0)
    ∷ post 0 0 (codes "y") ∷ deliver 1 ∷ asks (Notice 1) ∷ deliver 1 ∷ flush 0 1 ∷ flush 1 1 ∷ asks (Release 1)
    ∷ [])).world
    ≡ Outside 0 (codes "y") ∷ Letter 1 0 ∷ []
unfolding first_refusal at_unit at_up
certificate_after_a_kill = refl

certificate_of_nothing_logged : certificate_after (alone sample (
    opening (relay ∷ relay ∷ relay ∷ []) ∷ post 0 0 (codes "r") ∷ deliver 0 ∷ deliver 1 ∷ deliver 2 ∷ asks (Kill 0)
    ∷ asks (Restart 0)
    ∷ asks (Notice 2) ∷ asks (Notice 1) ∷ asks (Notice 2) ∷ deliver 2 ∷ post 1 0 (codes "s") ∷ deliver 4
    ∷ asks (Kill 1) ∷ asks (Restart 1) ∷ asks (Notice 2) ∷ [])).world
    ≡ []
unfolding first_refusal at_unit at_up
certificate_of_nothing_logged = refl

-- Worked examples: the replies to some steps of a tenant of sample units.
use Rattle.std.proofs.Common.{◌≡◌, refl}
use Rattle.std.specs.Prelude.{ℕ, true, List, [], ◌∷◌, Option, Some, None, codes}
use Rattle.model.specs.declared.refusals.Refusal.TheVariants.{AlreadyOpen, NoUnit, Down, Up, NoLetter, Wait, Orphan}
use Rattle.model.specs.declared.refusals.Refusal.TheVariants.{Repeat, Gap, Quota as OverQuota, Unlogged}
use Rattle.model.specs.declared.names.Quota.{Quota}
use Rattle.model.specs.declared.names.Mark.{Mark}
use Rattle.model.specs.declared.names.Start.{Start}
use Rattle.model.specs.declared.replies.Reply.{Reply}
use Rattle.model.specs.declared.replies.Reply.TheVariants.{Opened, Joined, Accepted, Flushed, Checkpointed, Killed}
use Rattle.model.specs.declared.replies.Reply.TheVariants.{Restarted, Noticed, Released, Status, Refused}
use Rattle.model.specs.declared.replies.End.TheVariants.{Whole}
use Rattle.model.specs.declared.steps.TenantStep.{TenantStep}
use Rattle.model.specs.declared.steps.TenantStep.TheVariants.{Open, Join, Post, Deliver, Flush, Checkpoint, Kill}
use Rattle.model.specs.declared.steps.TenantStep.TheVariants.{Restart, Notice, Release, Status as ReadStatus}
use Rattle.model.specs.Alone.{Event, alone}
use Rattle.model.specs.Sample.{sample, State}
use Rattle.std.specs.Prelude.{Result, Ok, Err, map}
use Rattle.model.specs.World.{World}
use Rattle.model.specs.Records.{vector_of}
use Rattle.model.specs.declared.names.Seat.{Seat}
use Rattle.model.specs.FailureFree.{Network, failure_free, certificate}
use Rattle.model.specs.declared.moves.Move.{Move}
use Rattle.model.specs.declared.moves.Move.TheVariants.{Outside, Letter, Join as Joined_}
use Rattle.model.specs.declared.moves.Flaw.{Flaw}
use Rattle.model.specs.declared.moves.Flaw.TheVariants.{NothingToReceive, NoUnit as NoUnitThere}
use Rattle.std.specs.Fmt.{digits}
use Rattle.model.specs.Steps.{first_refusal, at_unit, at_up}
use Rattle.model.specs.Records.{quiet}

abbrev pub asks : TenantStep → Event
asks step = record { step = step; said = quiet }

abbrev pub flush : ℕ → ℕ → Event
flush unit count = record { step = Flush unit; said = record { appended = count; end = Whole } }

abbrev pub post : ℕ → ℕ → List ℕ → Event
post unit number text = asks (Post unit number text)

abbrev pub deliver : ℕ → Event
deliver letter = asks (Deliver letter)

abbrev pub opening_with : Quota → List (List ℕ) → Event
opening_with quota kinds = asks (Open kinds quota 16)

abbrev pub opening : List (List ℕ) → Event
opening kinds = opening_with (record { volatile = 1024; held = 1024; letters = 1000000 }) kinds

abbrev pub at : ℕ → ℕ → Mark
at incarnation index = record { incarnation = incarnation; index = index }

abbrev pub start : ℕ → ℕ → Start
start incarnation index = record { incarnation = incarnation; index = index }

abbrev pub replies : List Event → List Reply
replies events = (alone sample events).replies

one_unit : replies (
    opening ((codes "echo") ∷ [])
    ∷ post 0 0 (codes "x")
    ∷ asks (Release 0)
    ∷ flush 0 1
    ∷ asks (Release 0)
    ∷ []) ≡
    (Opened 1
    ∷ Accepted (at 0 1) 1 ([])
    ∷ Released ([])
    ∷ Flushed 1
    ∷ Released ((codes "x") ∷ [])
    ∷ [])
unfolding first_refusal at_unit at_up digits
one_unit = refl

one_unit_status : replies (
    opening ((codes "echo") ∷ [])
    ∷ post 0 0 (codes "x")
    ∷ asks (Release 0)
    ∷ flush 0 1
    ∷ asks (Release 0)
    ∷ asks (ReadStatus 0)
    ∷ []) ≡
    (Opened 1
    ∷ Accepted (at 0 1) 1 ([])
    ∷ Released ([])
    ∷ Flushed 1
    ∷ Released ((codes "x") ∷ [])
    ∷ Status true (at 0 1) 0 0 1 1 0 1 0
    ∷ [])
unfolding first_refusal at_unit at_up digits
one_unit_status = refl

numbers : replies (
    opening ((codes "echo") ∷ [])
    ∷ post 0 0 (codes "x")
    ∷ post 0 0 (codes "x")
    ∷ post 0 2 (codes "x")
    ∷ []) ≡
    (Opened 1
    ∷ Accepted (at 0 1) 1 ([])
    ∷ Refused Repeat
    ∷ Refused Gap
    ∷ [])
unfolding first_refusal at_unit at_up digits
numbers = refl

output_waits_for_the_sender : replies (
    opening ((codes "relay") ∷ (codes "echo") ∷ [])
    ∷ post 0 0 (codes "x")
    ∷ deliver 0
    ∷ flush 1 1
    ∷ asks (Release 1)
    ∷ flush 0 1
    ∷ asks (Release 1)
    ∷ []) ≡
    (Opened 2
    ∷ Accepted (at 0 1) 0 (0 ∷ [])
    ∷ Accepted (at 0 1) 1 ([])
    ∷ Flushed 1
    ∷ Released ([])
    ∷ Flushed 1
    ∷ Released ((codes "x") ∷ [])
    ∷ [])
unfolding first_refusal at_unit at_up digits
output_waits_for_the_sender = refl

letters_in_order : replies (
    opening ((codes "relay") ∷ (codes "echo") ∷ [])
    ∷ post 0 0 (codes "p")
    ∷ post 0 1 (codes "q")
    ∷ deliver 1
    ∷ deliver 0
    ∷ deliver 1
    ∷ deliver 1
    ∷ []) ≡
    (Opened 2
    ∷ Accepted (at 0 1) 0 (0 ∷ [])
    ∷ Accepted (at 0 2) 0 (1 ∷ [])
    ∷ Refused Gap
    ∷ Accepted (at 0 1) 1 ([])
    ∷ Accepted (at 0 2) 2 ([])
    ∷ Refused Repeat
    ∷ [])
unfolding first_refusal at_unit at_up digits
letters_in_order = refl

orphan_after_restart : replies (
    opening ((codes "relay") ∷ (codes "echo") ∷ [])
    ∷ post 0 0 (codes "x")
    ∷ deliver 0
    ∷ flush 1 1
    ∷ asks (Kill 0)
    ∷ asks (Restart 0)
    ∷ deliver 0
    ∷ asks (Notice 1)
    ∷ deliver 0
    ∷ asks (Release 1)
    ∷ []) ≡
    (Opened 2
    ∷ Accepted (at 0 1) 0 (0 ∷ [])
    ∷ Accepted (at 0 1) 1 ([])
    ∷ Flushed 1
    ∷ Killed 1
    ∷ Restarted (start 1 1)
    ∷ Refused Repeat
    ∷ Noticed (Some (start 1 1))
    ∷ Refused Orphan
    ∷ Released ([])
    ∷ [])
unfolding first_refusal at_unit at_up digits
orphan_after_restart = refl

wait_for_the_row : replies (
    opening ((codes "relay") ∷ (codes "echo") ∷ [])
    ∷ post 0 0 (codes "x")
    ∷ deliver 0
    ∷ flush 1 1
    ∷ asks (Kill 0)
    ∷ asks (Restart 0)
    ∷ post 0 0 (codes "y")
    ∷ deliver 1
    ∷ asks (Notice 1)
    ∷ deliver 1
    ∷ flush 0 1
    ∷ flush 1 1
    ∷ asks (Release 1)
    ∷ []) ≡
    (Opened 2
    ∷ Accepted (at 0 1) 0 (0 ∷ [])
    ∷ Accepted (at 0 1) 1 ([])
    ∷ Flushed 1
    ∷ Killed 1
    ∷ Restarted (start 1 1)
    ∷ Accepted (at 1 1) 0 (1 ∷ [])
    ∷ Refused Wait
    ∷ Noticed (Some (start 1 1))
    ∷ Accepted (at 1 1) 1 ([])
    ∷ Flushed 1
    ∷ Flushed 1
    ∷ Released ((codes "y") ∷ [])
    ∷ [])
unfolding first_refusal at_unit at_up digits
wait_for_the_row = refl

nothing_released_twice : replies (
    opening ((codes "relay") ∷ (codes "echo") ∷ [])
    ∷ post 0 0 (codes "x")
    ∷ deliver 0
    ∷ flush 1 1
    ∷ asks (Release 1)
    ∷ flush 0 1
    ∷ asks (Release 1)
    ∷ asks (Kill 1)
    ∷ asks (Restart 1)
    ∷ asks (Release 1)
    ∷ asks (ReadStatus 1)
    ∷ []) ≡
    (Opened 2
    ∷ Accepted (at 0 1) 0 (0 ∷ [])
    ∷ Accepted (at 0 1) 1 ([])
    ∷ Flushed 1
    ∷ Released ([])
    ∷ Flushed 1
    ∷ Released ((codes "x") ∷ [])
    ∷ Killed 0
    ∷ Restarted (start 1 2)
    ∷ Released ([])
    ∷ Status true (at 0 1) 0 1 0 1 1 1 0
    ∷ [])
unfolding first_refusal at_unit at_up digits
nothing_released_twice = refl

ring_of_relays : replies (
    opening ((codes "relay") ∷ (codes "relay") ∷ (codes "relay") ∷ [])
    ∷ post 0 0 (codes "r")
    ∷ deliver 0
    ∷ deliver 1
    ∷ deliver 2
    ∷ asks (Kill 0)
    ∷ asks (Restart 0)
    ∷ asks (Notice 2)
    ∷ asks (Notice 1)
    ∷ asks (Notice 2)
    ∷ deliver 2
    ∷ post 1 0 (codes "s")
    ∷ deliver 4
    ∷ asks (Kill 1)
    ∷ asks (Restart 1)
    ∷ asks (Notice 2)
    ∷ asks (ReadStatus 2)
    ∷ []) ≡
    (Opened 3
    ∷ Accepted (at 0 1) 0 (0 ∷ [])
    ∷ Accepted (at 0 1) 0 (1 ∷ [])
    ∷ Accepted (at 0 1) 0 (2 ∷ [])
    ∷ Accepted (at 0 2) 0 (3 ∷ [])
    ∷ Killed 2
    ∷ Restarted (start 1 1)
    ∷ Noticed (Some (start 1 1))
    ∷ Noticed (Some (start 1 1))
    ∷ Noticed None
    ∷ Refused Orphan
    ∷ Accepted (at 1 1) 0 (4 ∷ [])
    ∷ Accepted (at 1 1) 0 (5 ∷ [])
    ∷ Killed 1
    ∷ Restarted (start 2 1)
    ∷ Noticed (Some (start 2 1))
    ∷ Status true (at 0 0) 0 5 0 0 5 0 0
    ∷ [])
unfolding first_refusal at_unit at_up digits
ring_of_relays = refl

volatile_quota : replies (
    opening_with (record { volatile = 1; held = 1024; letters = 1000000 }) ((codes "echo") ∷ [])
    ∷ post 0 0 (codes "x")
    ∷ post 0 1 (codes "x")
    ∷ flush 0 1
    ∷ post 0 1 (codes "x")
    ∷ []) ≡
    (Opened 1
    ∷ Accepted (at 0 1) 1 ([])
    ∷ Refused OverQuota
    ∷ Flushed 1
    ∷ Accepted (at 0 2) 2 ([])
    ∷ [])
unfolding first_refusal at_unit at_up digits
volatile_quota = refl

checkpoint_when_logged : replies (
    opening ((codes "echo") ∷ [])
    ∷ post 0 0 (codes "x")
    ∷ asks (Checkpoint 0)
    ∷ flush 0 1
    ∷ asks (Checkpoint 0)
    ∷ asks (Kill 0)
    ∷ asks (Restart 0)
    ∷ asks (ReadStatus 0)
    ∷ []) ≡
    (Opened 1
    ∷ Accepted (at 0 1) 1 ([])
    ∷ Refused Unlogged
    ∷ Flushed 1
    ∷ Checkpointed (at 0 1)
    ∷ Killed 0
    ∷ Restarted (start 1 2)
    ∷ Status true (at 0 1) 1 1 1 0 1 1 0
    ∷ [])
unfolding first_refusal at_unit at_up digits
checkpoint_when_logged = refl

refusals : replies (
    opening ((codes "relay") ∷ (codes "echo") ∷ [])
    ∷ asks (Restart 0)
    ∷ post 0 0 (codes "x")
    ∷ post 0 1 (codes "x")
    ∷ asks (Kill 0)
    ∷ asks (Kill 0)
    ∷ deliver 7
    ∷ opening ((codes "relay") ∷ (codes "echo") ∷ [])
    ∷ flush 2 0
    ∷ []) ≡
    (Opened 2
    ∷ Refused Up
    ∷ Accepted (at 0 1) 0 (0 ∷ [])
    ∷ Accepted (at 0 2) 0 (1 ∷ [])
    ∷ Killed 2
    ∷ Refused Down
    ∷ Refused NoLetter
    ∷ Refused AlreadyOpen
    ∷ Refused NoUnit
    ∷ [])
unfolding first_refusal at_unit at_up digits
refusals = refl

relay_to_itself : replies (
    opening ((codes "relay") ∷ [])
    ∷ post 0 0 (codes "x")
    ∷ deliver 0
    ∷ deliver 0
    ∷ deliver 1
    ∷ post 0 1 (codes "y")
    ∷ deliver 3
    ∷ deliver 2
    ∷ []) ≡
    (Opened 1
    ∷ Accepted (at 0 1) 0 (0 ∷ [])
    ∷ Accepted (at 0 2) 0 (1 ∷ [])
    ∷ Refused Repeat
    ∷ Accepted (at 0 3) 0 (2 ∷ [])
    ∷ Accepted (at 0 4) 0 (3 ∷ [])
    ∷ Refused Gap
    ∷ Accepted (at 0 5) 0 (4 ∷ [])
    ∷ [])
unfolding first_refusal at_unit at_up digits
relay_to_itself = refl

cut_inside_a_stable_path : replies (
    opening ((codes "relay") ∷ (codes "echo") ∷ [])
    ∷ post 1 0 (codes "k")
    ∷ post 0 0 (codes "x")
    ∷ deliver 0
    ∷ post 1 1 (codes "m")
    ∷ flush 1 3
    ∷ asks (Kill 0)
    ∷ asks (Restart 0)
    ∷ asks (Notice 1)
    ∷ asks (ReadStatus 1)
    ∷ post 1 1 (codes "m")
    ∷ flush 1 1
    ∷ asks (Release 1)
    ∷ []) ≡
    (Opened 2
    ∷ Accepted (at 0 1) 1 ([])
    ∷ Accepted (at 0 1) 0 (0 ∷ [])
    ∷ Accepted (at 0 2) 2 ([])
    ∷ Accepted (at 0 3) 3 ([])
    ∷ Flushed 3
    ∷ Killed 1
    ∷ Restarted (start 1 1)
    ∷ Noticed (Some (start 1 2))
    ∷ Status true (at 0 1) 1 2 1 0 2 1 0
    ∷ Accepted (at 1 2) 2 ([])
    ∷ Flushed 1
    ∷ Released ((codes "k") ∷ (codes "m") ∷ [])
    ∷ [])
unfolding first_refusal at_unit at_up digits
cut_inside_a_stable_path = refl

released_prefix : replies (
    opening ((codes "echo") ∷ [])
    ∷ post 0 0 (codes "a")
    ∷ post 0 1 (codes "b")
    ∷ flush 0 2
    ∷ post 0 2 (codes "c")
    ∷ asks (Release 0)
    ∷ asks (ReadStatus 0)
    ∷ asks (Kill 0)
    ∷ asks (Restart 0)
    ∷ asks (Release 0)
    ∷ post 0 2 (codes "d")
    ∷ []) ≡
    (Opened 1
    ∷ Accepted (at 0 1) 1 ([])
    ∷ Accepted (at 0 2) 2 ([])
    ∷ Flushed 2
    ∷ Accepted (at 0 3) 3 ([])
    ∷ Released ((codes "a") ∷ (codes "b") ∷ [])
    ∷ Status true (at 0 3) 1 0 3 2 0 2 1
    ∷ Killed 1
    ∷ Restarted (start 1 3)
    ∷ Released ([])
    ∷ Accepted (at 1 3) 1 ([])
    ∷ [])
unfolding first_refusal at_unit at_up digits
released_prefix = refl

one_tee : replies (
    opening ((codes "tee") ∷ [])
    ∷ post 0 0 (codes "x")
    ∷ []) ≡
    (Opened 1
    ∷ Accepted (at 0 1) 1 ([])
    ∷ [])
unfolding first_refusal at_unit at_up digits
one_tee = refl

sums : replies (
    opening ((codes "adder") ∷ [])
    ∷ post 0 0 (codes "18446744073709551615")
    ∷ post 0 1 (codes "1")
    ∷ post 0 2 (codes "-1")
    ∷ flush 0 3
    ∷ asks (Release 0)
    ∷ []) ≡
    (Opened 1
    ∷ Accepted (at 0 1) 1 ([])
    ∷ Accepted (at 0 2) 2 ([])
    ∷ Accepted (at 0 3) 3 ([])
    ∷ Flushed 3
    ∷ Released ((codes "18446744073709551615") ∷ (codes "18446744073709551615") ∷ (codes "?") ∷ [])
    ∷ [])
unfolding first_refusal at_unit at_up digits
sums = refl

joining : replies (
    opening ((codes "tee") ∷ [])
    ∷ post 0 0 (codes "x")
    ∷ asks (Join (codes "echo"))
    ∷ post 0 1 (codes "y")
    ∷ deliver 0
    ∷ flush 0 2
    ∷ flush 1 1
    ∷ asks (Kill 0)
    ∷ asks (Restart 0)
    ∷ asks (Notice 1)
    ∷ post 0 2 (codes "z")
    ∷ deliver 1
    ∷ asks (Release 1)
    ∷ []) ≡
    (Opened 1
    ∷ Accepted (at 0 1) 1 ([])
    ∷ Joined 1
    ∷ Accepted (at 0 2) 2 (0 ∷ [])
    ∷ Accepted (at 0 1) 1 ([])
    ∷ Flushed 2
    ∷ Flushed 1
    ∷ Killed 0
    ∷ Restarted (start 1 3)
    ∷ Noticed None
    ∷ Accepted (at 1 3) 3 (1 ∷ [])
    ∷ Accepted (at 0 2) 2 ([])
    ∷ Released ((codes "y") ∷ [])
    ∷ [])
unfolding first_refusal at_unit at_up digits
joining = refl

-- the certificate and a check of it, after some steps
abbrev pub certificate_after : Option World → List Move
certificate_after None = []
certificate_after (Some w) = certificate w

abbrev pub outputs_of : Result (Network State) Flaw → Result (List (List (List ℕ))) Flaw
outputs_of (Err f) = Err f
outputs_of (Ok net) = Ok (map (λ a. a.outputs) net.workers)

abbrev pub relay_and_echo : List Seat
relay_and_echo = record { unit = 0; kind = 1; home = 2 } ∷ record { unit = 1; kind = 0; home = 2 } ∷ []

certificate_of_two_receipts : certificate_after (alone sample (
    opening (codes "relay" ∷ codes "echo" ∷ []) ∷ post 0 0 (codes "x") ∷ deliver 0 ∷ flush 1 1 ∷ asks (Release 1)
    ∷ flush 0 1 ∷ asks (Release 1) ∷ [])).world
    ≡ Outside 0 (codes "x") ∷ Letter 1 0 ∷ []
unfolding first_refusal at_unit at_up
certificate_of_two_receipts = refl

check_of_two_moves : outputs_of (failure_free sample relay_and_echo (Outside 0 (codes "x") ∷ Letter 1 0 ∷ []))
    ≡ Ok ([] ∷ (codes "x" ∷ []) ∷ [])
check_of_two_moves = refl

check_exchanged : outputs_of (failure_free sample relay_and_echo (Letter 1 0 ∷ Outside 0 (codes "x") ∷ []))
    ≡ Err (NothingToReceive 1)
check_exchanged = refl

check_no_taker : outputs_of (failure_free sample relay_and_echo (Letter 5 0 ∷ [])) ≡ Err (NoUnitThere 5)
check_no_taker = refl

check_no_sender : outputs_of (failure_free sample relay_and_echo (Letter 1 5 ∷ [])) ≡ Err (NoUnitThere 5)
check_no_sender = refl

certificate_with_a_join : certificate_after (alone sample (
    opening (codes "tee" ∷ []) ∷ post 0 0 (codes "x") ∷ asks (Join (codes "echo")) ∷ post 0 1 (codes "y") ∷ deliver 0
    ∷ flush 0 2 ∷ flush 1 1
    ∷ asks (Kill 0) ∷ asks (Restart 0) ∷ asks (Notice 1) ∷ post 0 2 (codes "z") ∷ deliver 1 ∷ asks (Release 1)
    ∷ [])).world
    ≡ Outside 0 (codes "x") ∷ Joined_ 0 ∷ Outside 0 (codes "y") ∷ Letter 1 0 ∷ []
unfolding first_refusal at_unit at_up
certificate_with_a_join = refl

-- the vector of the second receipt of a relay and an echo
abbrev pub vector_after : ℕ → Option World → List Mark
vector_after x None = []
vector_after x (Some w) = vector_of w.nodes x

vector_of_the_echo : vector_after 3
    (alone sample (opening (codes "relay" ∷ codes "echo" ∷ []) ∷ post 0 0 (codes "x") ∷ deliver 0 ∷ [])).world
    ≡ at 0 1 ∷ at 0 1 ∷ []
unfolding first_refusal at_unit at_up
vector_of_the_echo = refl

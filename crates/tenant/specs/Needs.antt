-- The turn that a step now needs.
use Rattle.std.specs.Prelude.{◌≡◌, ℕ, ◌-◌, List, length, Option, Some, None, Result, Ok, Err, slice_get}
use Rattle.handler.specs.Inputs.{Input}
use Rattle.model.specs.Handler.{Meaning}
use Rattle.model.specs.Nodes.{Message, turn_at}
use Rattle.model.specs.Steps.{Outcome, first_refusal, post_front, deliver_front}
use Rattle.model.specs.World.{World, Member, executed}
use Rattle.model.specs.declared.names.Source.{Source}
use Rattle.model.specs.declared.names.Source.TheVariants.{Outside, Unit as FromUnit}
use Rattle.model.specs.declared.refusals.Refusal.{Refusal}
use Rattle.model.specs.declared.replies.Reply.TheVariants.{Refused}
use Rattle.model.specs.declared.steps.TenantStep.{TenantStep}
use Rattle.model.specs.declared.steps.TenantStep.TheVariants.{Open, Join, Post, Deliver, Flush, Checkpoint, Kill}
use Rattle.model.specs.declared.steps.TenantStep.TheVariants.{Restart, Notice, Release, Status}
use Rattle.tenant.specs.Outcomes.{done}

-- the input of the turn upon a receipt: the unit's seat and its state, where the text is from, and the text
abbrev pub input_upon : {S : Type 0} → Meaning S → World → Member → Source → List ℕ → Input S
input_upon M w m source text = record {
  seat = m.seat;
  state = (turn_at M m.seat (executed M w).turns (slice_get m.path (length m.path - 1))).state;
  source = source;
  text = text;
}

-- the input, unless the receipt is refused before its turn
abbrev pub input_unless : {S : Type 0} → Input S → Option Refusal → Option (Input S)
input_unless input None = Some input
input_unless input (Some r) = None

abbrev pub post_to_needs : {S : Type 0} → Meaning S → World → ℕ → List ℕ → Option Member → Option (Input S)
post_to_needs M w number text None = None
post_to_needs M w number text (Some m) =
    input_unless (input_upon M w m Outside text) (first_refusal (post_front w m number text))

-- the input of the turn that a post needs, if it needs one
unfoldable pub post_needs : {S : Type 0} → Meaning S → World → ℕ → ℕ → List ℕ → Option (Input S)
post_needs M w u number text = post_to_needs M w number text (slice_get w.members u)

abbrev pub deliver_to_needs : {S : Type 0} → Meaning S → World → Message → Option Member → Option (Input S)
deliver_to_needs M w received None = None
deliver_to_needs M w received (Some m) = input_unless (input_upon M w m (FromUnit received.source) received.text)
    (first_refusal (deliver_front w received m))

abbrev pub letter_needs : {S : Type 0} → Meaning S → World → Option Message → Option (Input S)
letter_needs M w None = None
letter_needs M w (Some received) = deliver_to_needs M w received (slice_get w.members received.receiver)

-- the input of the turn that a delivery needs, if it needs one
unfoldable pub deliver_needs : {S : Type 0} → Meaning S → World → ℕ → Option (Input S)
deliver_needs M w l = letter_needs M w (slice_get (executed M w).letters l)

-- the whole input of the turn that a step now needs: a post or a delivery that no test before the turn refuses needs
-- one
abbrev pub needs : {S : Type 0} → Meaning S → World → TenantStep → Option (Input S)
needs M w (Open kinds quota optimism) = None
needs M w (Join kind) = None
needs M w (Post unit number text) = post_needs M w unit number text
needs M w (Deliver letter) = deliver_needs M w letter
needs M w (Flush unit) = None
needs M w (Checkpoint unit) = None
needs M w (Kill unit) = None
needs M w (Restart unit) = None
needs M w (Notice unit) = None
needs M w (Release unit) = None
needs M w (Status unit) = None

-- a turn of this input will do: it is the one that is needed, or none is
abbrev pub IsFresh : {S : Type 0} → Option (Input S) → Input S → Type 0
IsFresh None input = Unit {0}
IsFresh (Some needed) input = needed ≡ input

-- the input that is needed, or the refusal before it
abbrev pub IsAsked : {S : Type 0} → Option (Input S) → Outcome → World → Result (Input S) Refusal → Type 0
IsAsked needed outcome w (Ok input) = needed ≡ Some input
IsAsked needed outcome w (Err r) = (needed ≡ None) × (outcome ≡ done (Refused r) w)

-- whether there is an answer says whether a turn of this input will do
abbrev pub WasFresh : {S A : Type 0} → Option (Input S) → Input S → Option A → Type 0
WasFresh needed input None = ¬ IsFresh needed input
WasFresh needed input (Some answer) = IsFresh needed input

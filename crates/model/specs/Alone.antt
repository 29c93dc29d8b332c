-- One tenant by itself: the replies to a list of steps, and the world after them.
use Rattle.std.specs.Prelude.{◌≡◌, List, [], ◌∷◌, Option, Some, None}
use Rattle.model.specs.declared.refusals.Refusal.TheVariants.{NoTenant, AlreadyOpen}
use Rattle.model.specs.declared.replies.Reply.{Reply}
use Rattle.model.specs.declared.replies.Reply.TheVariants.{Refused}
use Rattle.model.specs.declared.replies.Said.{Said}
use Rattle.model.specs.declared.steps.TenantStep.{TenantStep}
use Rattle.model.specs.declared.steps.TenantStep.TheVariants.{Open, Join, Post, Deliver, Flush, Checkpoint, Kill}
use Rattle.model.specs.declared.steps.TenantStep.TheVariants.{Restart, Notice, Release, Status}
use Rattle.model.specs.Handler.{Meaning}
use Rattle.model.specs.World.{World}
use Rattle.model.specs.Steps.{Outcome, open_new, join, post, deliver, flush, checkpoint, kill, restart, notice, release}
use Rattle.model.specs.Steps.{status}

-- a step with what the store said during it
pub record Event : Type 0 where
  pub step : TenantStep
  pub said : Said

-- a step of an open tenant
abbrev pub step_open : {S : Type 0} → Meaning S → World → TenantStep → Said → Outcome
step_open M w (Open kinds quota optimism) said = record { reply = Refused AlreadyOpen; world = Some w }
step_open M w (Join kind) said = join M w kind
step_open M w (Post unit number text) said = post M w unit number text
step_open M w (Deliver letter) said = deliver M w letter
step_open M w (Flush unit) said = flush w unit said
step_open M w (Checkpoint unit) said = checkpoint w unit
step_open M w (Kill unit) said = kill w unit
step_open M w (Restart unit) said = restart w unit said
step_open M w (Notice unit) said = notice w unit said
step_open M w (Release unit) said = release M w unit
step_open M w (Status unit) said = status M w unit

abbrev pub no_tenant : Outcome
no_tenant = record { reply = Refused NoTenant; world = None }

-- a step of a tenant that is not open
abbrev pub step_unopened : {S : Type 0} → Meaning S → TenantStep → Outcome
step_unopened M (Open kinds quota optimism) = open_new M kinds quota optimism
step_unopened M (Join kind) = no_tenant
step_unopened M (Post unit number text) = no_tenant
step_unopened M (Deliver letter) = no_tenant
step_unopened M (Flush unit) = no_tenant
step_unopened M (Checkpoint unit) = no_tenant
step_unopened M (Kill unit) = no_tenant
step_unopened M (Restart unit) = no_tenant
step_unopened M (Notice unit) = no_tenant
step_unopened M (Release unit) = no_tenant
step_unopened M (Status unit) = no_tenant

-- one step
abbrev pub step : {S : Type 0} → Meaning S → Option World → Event → Outcome
step M None e = step_unopened M e.step
step M (Some w) e = step_open M w e.step e.said

-- the replies to some steps, and the world after them
pub record Course : Type 0 where
  pub replies : List Reply
  pub world : Option World

abbrev pub course_from : {S : Type 0} → Meaning S → Option World → List Event → Course
course_from M w [] = record { replies = []; world = w }
course_from M w (e ∷ events) =
    let first = step M w e in
    let rest = course_from M first.world events in
    record { replies = first.reply ∷ rest.replies; world = rest.world }

-- a tenant by itself, from before it is opened
abbrev pub alone : {S : Type 0} → Meaning S → List Event → Course
alone M events = course_from M None events

-- the worlds that a tenant can come to
pub data Reachable {S : Type 0} (M : Meaning S) : World → Type 0 where
  opened : {w : World} (e : Event) → (step M None e).world ≡ Some w → Reachable M w
  stepped : {v w : World} (e : Event) → Reachable M v → (step M (Some v) e).world ≡ Some w → Reachable M w

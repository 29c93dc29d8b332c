-- What the calls of a tenant say of a tenant that may be unopened.
use Rattle.std.proofs.Common.{◌≡◌, ◌≤◌, ◌⊎◌, ◌+◌, inl, inr, ℕ, List, [], ◌∷◌, Bool, true, false, if◌then◌else◌, refl}
use Rattle.std.proofs.Common.{◌∙◌, ◌++◌, append-nil, sym, ap, subst}
use Rattle.std.specs.Prelude.{Option, None, Some, Result, Ok, Err, IfOk, IfSome, IsOkAnd, IsSomeAnd, bytes_eq}
use Rattle.model.specs.Alone.{step_open}
use Rattle.model.specs.Handler.{Meaning}
use Rattle.model.specs.Steps.{Outcome, can_open}
use Rattle.model.specs.World.{World}
use Rattle.model.specs.declared.names.Quota.{Quota}
use Rattle.model.specs.declared.records.Record.{Record}
use Rattle.model.specs.declared.refusals.Refusal.TheVariants.{BadOpen}
use Rattle.model.specs.declared.replies.End.TheVariants.{Device}
use Rattle.model.specs.declared.replies.Reply.{Reply}
use Rattle.model.specs.declared.replies.Reply.TheVariants.{Opened, Refused}
use Rattle.model.specs.declared.replies.Said.{Said}
use Rattle.model.specs.declared.steps.TenantStep.{TenantStep}
use Rattle.model.specs.declared.steps.TenantStep.TheVariants.{Open}
use Rattle.shared_log.specs.Logged.{Logged}
use Rattle.tenant.specs.Outcomes.{done}
use Rattle.tenant.specs.Answers.{Answer}
use Rattle.tenant.specs.Live.{KeepsJust, OthersLive}
use Rattle.tenant.specs.Past.{KeepsOn}
use Rattle.tenant.specs.Stands.{TenantState, Stands, StandsAt, Did, IsOpened}
use Rattle.book.specs.History.{DidAt, Holding, IsAnsweredAt, KeepsOthers, LogsAt, StepsAt, named_if_opened, opened_by}
use Rattle.book.specs.Past.{KeepsJustAt, KeepsOnAt}
use Rattle.book.proofs.Live.{just_open}
use Rattle.book.proofs.PastKept.{keeps_open}

-- what follows from a clause on `Ok`
pub if_ok : {A E : Type 0} {P Q : A → Type 0} (r : Result A E) → ((a : A) → P a → Q a) → IfOk r P → IfOk r Q
if_ok (Ok a) f h = f a h
if_ok (Err e) f h = tt

-- two clauses on `Ok` are one
pub both_ok : {A E : Type 0} (P Q : A → Type 0) (r : Result A E) → IfOk r P → IfOk r Q → IfOk r (λ a. P a × Q a)
both_ok P Q (Ok a) p q = (p, q)
both_ok P Q (Err e) p q = tt

-- what follows from a clause on `Some`
pub if_some : {A : Type 0} {P Q : A → Type 0} (o : Option A) → ((a : A) → P a → Q a) → IfSome o P → IfSome o Q
if_some None f h = tt
if_some (Some a) f h = f a h

-- and so are two on `Some`
pub both_some : {A : Type 0} (P Q : A → Type 0) (o : Option A) → IfSome o P → IfSome o Q → IfSome o (λ a. P a × Q a)
both_some P Q None p q = tt
both_some P Q (Some a) p q = (p, q)

-- the answer says that the device failed
abbrev pub SaysDevice : Answer → Type 0
SaysDevice a = a.said.end ≡ Device

-- so it does, if it is there
abbrev pub SaysDeviceIf : Option Answer → Type 0
SaysDeviceIf o = IsSomeAnd o SaysDevice

-- what stays unless the answer says so stays where it says otherwise
pub steady_ok : {A E P : Type 0} (Says : A → Type 0) (r : Result A E)
    → P ⊎ IsOkAnd r Says → IfOk r (λ a. (Says a → ⊥) → P)
steady_ok Says (Ok a) (inl stays) = λ not. stays
steady_ok Says (Ok a) (inr says) = λ not. absurd (not says)
steady_ok Says (Err e) h = tt

-- an answer that may be there says so only where it is
pub says_some : {A P : Type 0} (Says : A → Type 0) (o : Option A)
    → ((IsSomeAnd o Says → ⊥) → P) → IfSome o (λ a. (Says a → ⊥) → P)
says_some Says None h = tt
says_some Says (Some a) h = h

module _ {S : Type 0} (M : Meaning S) where
  -- what an opening gives, where it is accepted or not
  abbrev opening : Bool → ℕ → World → Outcome
  opening b units v =
      if b then record { reply = Opened units; world = Some v } else record { reply = Refused BadOpen; world = None }

  abbrev outcome : Reply → Option World → Outcome
  outcome answer z = record { reply = answer; world = z }

  none_from : (b : Bool) (units : ℕ) (v : World) (name : List ℕ) (answer : Reply) (z : Option World)
      → opening b units v ≡ outcome answer z → StandsAt M name None z [] → named_if_opened name answer ≡ []
  none_from true units v name answer z e stands =
      absurd (subst (λ w. StandsAt M name None w []) (sym (ap (λ (o : Outcome). o.world) e)) stands)
  none_from false units v name answer z e stands = sym (ap (λ (o : Outcome). named_if_opened name o.reply) e)

  some_from : (b : Bool) (units : ℕ) (v : World) (name : List ℕ) (answer : Reply) (z : Option World) (k : TenantState S)
      → opening b units v ≡ outcome answer z → StandsAt M name (Some k) z [] → named_if_opened name answer ≡ name ∷ []
  some_from true units v name answer z k e stands = sym (ap (λ (o : Outcome). named_if_opened name o.reply) e)
  some_from false units v name answer z k e stands =
      absurd (subst (λ w. StandsAt M name (Some k) w []) (sym (ap (λ (o : Outcome). o.world) e)) stands)

  -- where no tenant was opened, the reply does not say so
  pub opened-none : (kinds : List (List ℕ)) (quota : Quota) (optimism : ℕ) (name : List ℕ) (answer : Reply)
      → IsOpened M kinds quota optimism answer None → named_if_opened name answer ≡ []
  opened-none kinds quota optimism name answer h =
      none_from (can_open M kinds quota optimism) _ _ name answer h.0 h.1 (h.2 name [])

  -- where one was, it does
  pub opened-some : (kinds : List (List ℕ))
      (quota : Quota) (optimism : ℕ) (name : List ℕ) (answer : Reply) (k : TenantState S)
      → IsOpened M kinds quota optimism answer (Some k) → named_if_opened name answer ≡ name ∷ []
  opened-some kinds quota optimism name answer k h =
      some_from (can_open M kinds quota optimism) _ _ name answer h.0 k h.1 (h.2 name [])

  -- the reply to an open tenant, and what is kept
  pub steps_open : (name : List ℕ)
      (old new : TenantState S) (step : TenantStep) (said : Said) (answer : Reply) (before after : Logged)
      → ((w : World) → Stands M name old w before.records → Did M name w new step said answer before after)
      → (w : Option World) → StandsAt M name (Some old) w before.records
      → StepsAt M name w (Some new) step said answer after.records
  steps_open name old new step said answer before after did None stands = absurd stands
  steps_open name old new step said answer before after did (Some w) stands =
      let d = did w stands in (Some d.steps.0, d.steps.1, d.steps.2)

  -- what an open tenant logged
  pub logs_open : (name : List ℕ)
      (old new : TenantState S) (step : TenantStep) (said : Said) (answer : Reply) (before after : Logged)
      → ((w : World) → Stands M name old w before.records → Did M name w new step said answer before after)
      → before.failures ≤ after.failures
      → ((said.end ≡ Device → ⊥) → after.failures ≡ before.failures) → after.failures ≤ before.failures + 1
      → (w : Option World) → StandsAt M name (Some old) w before.records → LogsAt M name w step said before after
  logs_open name old new step said answer before after did up steady once None stands = absurd stands
  logs_open name old new step said answer before after did up steady once (Some w) stands =
      let d = did w stands in
      record { honest = d.logs.honest; device = d.logs.device; up = up; steady = steady; once = once }

  unopened_from : (name : List ℕ) (w : World) (step : TenantStep) (said : Said) (answer : Reply) (z : World)
      → step_open M w step said ≡ done answer z → opened_by name step answer ≡ []
  unopened_from name w (Open kinds quota optimism) said answer z e =
      sym (ap (λ (o : Outcome). named_if_opened name o.reply) e)
  unopened_from name w _ said answer z e = refl

  -- a tenant that is open is not opened
  pub unopened : (name : List ℕ)
      (old new : TenantState S) (step : TenantStep) (said : Said) (answer : Reply) (before after : Logged)
      → ((w : World) → Stands M name old w before.records → Did M name w new step said answer before after)
      → (w : Option World) → StandsAt M name (Some old) w before.records → opened_by name step answer ≡ []
  unopened name old new step said answer before after did None stands = absurd stands
  unopened name old new step said answer before after did (Some w) stands =
      let d = did w stands in unopened_from name w step said answer d.steps.0 d.steps.1

  -- what other tenants stand for stays, also where they are not open
  pub keeps_others : (name : List ℕ) (before after : List (Option Record))
      → ((k : TenantState S) (w : World) (other : List ℕ)
      → bytes_eq other name ≡ false → Stands M other k w before → Stands M other k w after)
      → KeepsOthers M name before after
  keeps_others name before after keeps None None other apart stands = tt
  keeps_others name before after keeps None (Some w) other apart stands = absurd stands
  keeps_others name before after keeps (Some k) None other apart stands = absurd stands
  keeps_others name before after keeps (Some k) (Some w) other apart stands = keeps k w other apart stands

  -- a step of a tenant that is not open was done, and the log stayed
  pub answered_unopened : (tenant : List ℕ) (step : TenantStep) (said : Said)
      (answer : Reply) (at after : List ℕ → Option (TenantState S)) (names names_after : List (List ℕ)) (log : Logged)
      → let before : Holding (TenantState S) = record { at = at; names = names; log = log } in
      let later : Holding (TenantState S) = record { at = after; names = names_after; log = log } in
      None ≡ at tenant → DidAt M tenant None step said answer before later
      → ((other : List ℕ) → bytes_eq other tenant ≡ false → after other ≡ at other)
      → IsAnsweredAt M tenant step said answer before later
  answered_unopened tenant step said answer at after names names_after log none did others = record {
    did = only_world;
    others = others;
    others_stand = λ k w other apart stands. stands;
    others_live = λ other u apart. refl;
  }
    where
      only_world : (w : Option World) → StandsAt M tenant (at tenant) w log.records
          → DidAt M tenant w step said answer
          (record { at = at; names = names; log = log }) (record { at = after; names = names_after; log = log })
      only_world None stands = did
      only_world (Some w) stands =
          absurd (subst (λ t. StandsAt M tenant t (Some w) log.records) (sym none) stands)

  -- a step of an open tenant was done
  pub answered_open : (name : List ℕ) (step : TenantStep) (said : Said) (answer : Reply) (old new : TenantState S)
      (at after : List ℕ → Option (TenantState S)) (names names_after : List (List ℕ)) (log log_after : Logged)
      → Some old ≡ at name → Some new ≡ after name → names_after ≡ names
      → ((other : List ℕ) → bytes_eq other name ≡ false → after other ≡ at other)
      → ((w : World) → Stands M name old w log.records → Did M name w new step said answer log log_after)
      → KeepsOn M name old step said answer new log.records
      → KeepsJust M name old step said answer log.records log_after.records
      → ((k : TenantState S) (w : World) (other : List ℕ) → bytes_eq other name ≡ false
      → Stands M other k w log.records → Stands M other k w log_after.records)
      → OthersLive name log.records log_after.records
      → log.failures ≤ log_after.failures → ((said.end ≡ Device → ⊥) → log_after.failures ≡ log.failures)
      → log_after.failures ≤ log.failures + 1
      → IsAnsweredAt M name step said answer (record { at = at; names = names; log = log })
      (record { at = after; names = names_after; log = log_after })
  answered_open name step said answer old new at after names names_after log log_after here there same others did
      keeps just others_stand others_live up steady once =
      record {
        did = λ w stands. let stood = subst (λ t. StandsAt M name t w log.records) (sym here) stands in record {
          steps = subst (λ t. StepsAt M name w t step said answer log_after.records) there
              (steps_open name old new step said answer log log_after did w stood);
          keeps = subst (λ t. KeepsOnAt M w t (record { step = step; said = said }) (after name)) here
              (subst (λ t. KeepsOnAt M w (Some old) (record { step = step; said = said }) t) there
              (keeps_open M name old new step said answer log log_after did keeps w stood));
          just = subst (λ t. KeepsJustAt M name w t (record { step = step; said = said }) log.records
              log_after.records) here (just_open M name old new step said answer log log_after did just w stood);
          logs = logs_open name old new step said answer log log_after did up steady once w stood;
          order = same ∙ sym (ap (λ (opened : List (List ℕ)). names ++ opened)
              (unopened name old new step said answer log log_after did w stood) ∙ append-nil names);
        };
        others = others;
        others_stand = keeps_others name log.records log_after.records others_stand;
        others_live = others_live;
      }

  -- what holds of each world that an open tenant stands for holds of the one that it has
  pub of_open : (name : List ℕ)
      (k : TenantState S) (at : Option (TenantState S)) (records : List (Option Record)) (F : Option World → Type 0)
      → Some k ≡ at → ((w : World) → Stands M name k w records → F (Some w))
      → (w : Option World) → StandsAt M name at w records → F w
  of_open name k at records F here f None stands =
      absurd (subst (λ t. StandsAt M name t None records) (sym here) stands)
  of_open name k at records F here f (Some w) stands =
      f w (subst (λ t. StandsAt M name t (Some w) records) (sym here) stands)

-- where the tenant isn't open there is no world
pub of_closed : {S : Type 0} (M : Meaning S) (name : List ℕ)
    (at : Option (TenantState S)) (records : List (Option Record)) (w : Option World) (F : Option World → Type 0)
    → F None → None ≡ at → StandsAt M name at w records → F w
of_closed {S} M name at records w F f here stands = go w (subst (λ t. StandsAt M name t w records) (sym here) stands)
  where
    go : (z : Option World) → StandsAt M name None z records → F z
    go None s = f
    go (Some z) s = absurd s

-- so it is where more is known of that world
pub of_open_known : {S : Type 0} (M : Meaning S) (name : List ℕ) (k : TenantState S)
    (at : Option (TenantState S)) (records : List (Option Record)) (w : Option World) (F : Option World → Type 0)
    → Some k ≡ at → ((z : World) → Stands M name k z records → w ≡ Some z → F (Some z))
    → StandsAt M name at w records → F w
of_open_known M name k at records w F here f stands =
    of_open M name k at records (λ z. w ≡ z → F z) here f w stands refl

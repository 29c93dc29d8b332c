-- Of its past a tenant keeps what the rules leave of its own entries.
use Rattle.std.proofs.Common.{◌≡◌, refl, sym, ap, subst, ◌∙◌, ℕ, List, [], ◌∷◌, ◌++◌}
use Rattle.std.specs.Prelude.{Option, None, Some, IfSome}
use Rattle.std.specs.List.{fold}
use Rattle.std.proofs.lemmas.List.Sums.{fold-append}
use Rattle.model.specs.Alone.{Event, course_from}
use Rattle.model.specs.Handler.{Meaning}
use Rattle.model.specs.History.{own, pairs}
use Rattle.model.specs.Keeping.{Keeping, Shelf, kept_in, kept_of, keeping, keeping_on, shelves_in}
use Rattle.model.specs.Steps.{Outcome, open_new}
use Rattle.model.specs.World.{World}
use Rattle.model.specs.declared.kept.Kept.{Kept as Amount}
use Rattle.model.specs.declared.names.Quota.{Quota}
use Rattle.model.specs.declared.records.Record.{Record}
use Rattle.model.specs.declared.replies.Entry.{Entry}
use Rattle.model.specs.declared.replies.Reply.{Reply}
use Rattle.model.specs.declared.replies.Said.{Said}
use Rattle.model.specs.declared.steps.TenantStep.{TenantStep}
use Rattle.model.specs.declared.steps.TenantStep.TheVariants.{Open}
use Rattle.shared_log.specs.Logged.{Logged}
use Rattle.tenant.specs.declared.footprint.Footprint.{Footprint}
use Rattle.tenant.specs.Past.{KeepsOn, KeepsPast, OpensPast}
use Rattle.tenant.specs.Stands.{Did, IsOpened, TenantState, Stands, StandsAt}
use Rattle.book.specs.History.{world_of}
use Rattle.book.specs.Past.{FootprintAfter, FootprintIn, KeepsAt, KeepsIn, KeepsOnAt, keeping_after, kept_after}

module _ {S : Type 0} (M : Meaning S) where
  -- ---- events of one tenant

  world_from : (k : Keeping) (events : List Event)
      → (fold (keeping_on M) k events).world ≡ (course_from M k.world events).world
  world_from k [] = refl
  world_from k (e ∷ events) = world_from (keeping_on M k e) events

  -- the world that is carried along is the tenant's
  pub keeping_world : (tenant : List ℕ) (history : List Entry)
      → (keeping_after M tenant history).world ≡ world_of M tenant history
  keeping_world tenant history = world_from (record { world = None; shelves = [] }) (own tenant (pairs history))

  -- one more event
  pub keeping-push : (events : List Event) (e : Event)
      → keeping M (events ++ e ∷ []) ≡ keeping_on M (keeping M events) e
  keeping-push events e = fold-append (keeping_on M) (record { world = None; shelves = [] }) events (e ∷ [])

  -- ---- what the calls of a tenant say

  -- what is left after a step that came out so
  abbrev Left : TenantState S → TenantStep → List Shelf → Outcome → Type 0
  Left t d shelves o = KeepsIn (Some t) o.world (shelves_in o.world d o.reply shelves)

  -- of a tenant that is open
  pub keeps_open : (name : List ℕ)
      (old new : TenantState S) (d : TenantStep) (said : Said) (answer : Reply) (before after : Logged)
      → ((w : World) → Stands M name old w before.records → Did M name w new d said answer before after)
      → KeepsOn M name old d said answer new before.records
      → (w : Option World) → StandsAt M name (Some old) w before.records
      → KeepsOnAt M w (Some old) (record { step = d; said = said }) (Some new)
  keeps_open name old new d said answer before after did keeps None stands = absurd stands
  keeps_open name old new d said answer before after did keeps (Some w) stands = λ shelves k.
      let done = did w stands in
      subst (Left new d shelves) (sym done.steps.1) (keeps w done.steps.0 shelves stands done.steps.1 k)

  -- of one that was opened, or not
  pub keeps_opened : (kinds : List (List ℕ))
      (quota : Quota) (optimism : ℕ) (answer : Reply) (t : Option (TenantState S)) (said : Said)
      → IsOpened M kinds quota optimism answer t → IfSome t (OpensPast answer)
      → KeepsOnAt M None None (record { step = Open kinds quota optimism; said = said }) t
  keeps_opened kinds quota optimism answer None said is past = λ shelves k. tt
  keeps_opened kinds quota optimism answer (Some t) said is past = λ shelves k. go shelves is.0 is.1 (is.2 [] [])
    where
      go : (shelves : List Shelf) (z : Option World)
          → open_new M kinds quota optimism ≡ record { reply = answer; world = z }
          → StandsAt M [] (Some t) z [] → Left t (Open kinds quota optimism) shelves (open_new M kinds quota optimism)
      go shelves None e stands = absurd stands
      go shelves (Some v) e stands = subst (Left t (Open kinds quota optimism) shelves) (sym e) (past v shelves)

  -- ---- how much is kept

  -- of a unit of a tenant that is open
  pub kept_open : (name : List ℕ) (history : List Entry) (t : TenantState S)
      (at : Option (TenantState S)) (records : List (Option Record)) (unit : ℕ) (found : Option Amount)
      → Some t ≡ at → StandsAt M name at (world_of M name history) records → KeepsAt at (keeping_after M name history)
      → ((w : World) (shelves : List Shelf)
      → Stands M name t w records → KeepsPast t w shelves → found ≡ kept_in M w shelves unit)
      → found ≡ kept_after M name history unit
  kept_open name history t at records unit found here stands keeps f =
      go (keeping_after M name history).world
      (subst (λ w. StandsAt M name (Some t) w records) (sym (keeping_world name history))
      (subst (λ k. StandsAt M name k (world_of M name history) records) (sym here) stands))
      (subst (λ k. KeepsAt k (keeping_after M name history)) (sym here) keeps)
    where
      go : (w : Option World) → StandsAt M name (Some t) w records
          → KeepsIn (Some t) w (keeping_after M name history).shelves
          → found ≡ kept_of M w (keeping_after M name history).shelves unit
      go None s k = absurd s
      go (Some w) s k = f w (keeping_after M name history).shelves s k

  -- of one that is not
  pub kept_none : (name : List ℕ)
      (history : List Entry) (at : Option (TenantState S)) (records : List (Option Record)) (unit : ℕ)
      → None ≡ at → StandsAt M name at (world_of M name history) records → None ≡ kept_after M name history unit
  kept_none name history at records unit here stands =
      go (world_of M name history) (subst (λ k. StandsAt M name k (world_of M name history) records) (sym here) stands)
      ∙ sym (ap (λ w. kept_of M w (keeping_after M name history).shelves unit) (keeping_world name history))
    where
      go : (w : Option World) → StandsAt M name None w records
          → None ≡ kept_of M w (keeping_after M name history).shelves unit
      go None s = refl
      go (Some w) s = absurd s

  -- ---- how long its lists are

  -- those of a unit of a tenant that is open
  pub footprint_open : (name : List ℕ) (history : List Entry) (t : TenantState S) (at : Option (TenantState S))
      (records : List (Option Record)) (unit : ℕ) (found : Option Footprint)
      → Some t ≡ at → StandsAt M name at (world_of M name history) records → KeepsAt at (keeping_after M name history)
      → ((w : World) (shelves : List Shelf) → Stands M name t w records → KeepsPast t w shelves
      → FootprintIn M (Some w) shelves unit found)
      → FootprintAfter M name history unit found
  footprint_open name history t at records unit found here stands keeps f =
      go (keeping_after M name history).world
      (subst (λ w. StandsAt M name (Some t) w records) (sym (keeping_world name history))
      (subst (λ k. StandsAt M name k (world_of M name history) records) (sym here) stands))
      (subst (λ k. KeepsAt k (keeping_after M name history)) (sym here) keeps)
    where
      go : (w : Option World) → StandsAt M name (Some t) w records
          → KeepsIn (Some t) w (keeping_after M name history).shelves
          → FootprintIn M w (keeping_after M name history).shelves unit found
      go None s k = absurd s
      go (Some w) s k = f w (keeping_after M name history).shelves s k

  -- those of one that is not
  pub footprint_none : (name : List ℕ)
      (history : List Entry) (at : Option (TenantState S)) (records : List (Option Record))
      (unit : ℕ) → None ≡ at → StandsAt M name at (world_of M name history) records
      → FootprintAfter M name history unit None
  footprint_none name history at records unit here stands =
      subst (λ w. FootprintIn M w (keeping_after M name history).shelves unit None) (sym (keeping_world name history))
      (go (world_of M name history)
      (subst (λ k. StandsAt M name k (world_of M name history) records) (sym here) stands))
    where
      go : (w : Option World) → StandsAt M name None w records
          → FootprintIn M w (keeping_after M name history).shelves unit None
      go None s = refl
      go (Some w) s = absurd s

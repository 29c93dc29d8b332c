-- A host goes on from each book that it stands for.
use Rattle.std.proofs.Common.{◌≡◌, ◌≤◌, ◌⊎◌, ◌∙◌, ap, inl, inr, refl, sym, subst, true, false, bytes_eq, ℕ, List}
use Rattle.std.proofs.Common.{[], ◌∷◌, ◌++◌}
use Rattle.std.proofs.lemmas.Option.{same_Some}
use Rattle.std.specs.Prelude.{IfSome, Option, Some, None}
use Rattle.model.specs.Handler.{Meaning}
use Rattle.model.specs.declared.records.Record.{Record}
use Rattle.model.specs.declared.replies.Entry.{Entry}
use Rattle.model.specs.declared.replies.Reply.{Reply}
use Rattle.model.specs.declared.replies.Said.{Said}
use Rattle.model.specs.declared.replies.Who.{Who}
use Rattle.model.specs.declared.steps.Step.{Step}
use Rattle.model.specs.declared.steps.TenantStep.{TenantStep}
use Rattle.model.specs.declared.steps.TenantStep.TheVariants.{Release}
use Rattle.shared_log.specs.Logged.{Logged}
use Rattle.tenant.specs.Stands.{KeepsNoText, KeepsNoTextBut, KeepsTexts, TenantState, Stands, StandsAt}
use Rattle.book.specs.Entries.{CountsDevice, IsAdded, Ledger, memory_reply}
use Rattle.book.specs.History.{HoldsAsBefore, Holding, IsAnswered, IsAnsweredAt, IsRecordedIn, IsReplay, IsSaidHonestly}
use Rattle.book.specs.History.{world_of}
use Rattle.book.specs.Past.{HasJustAt, KeepsAt, KeepsIn, keeping_after}
use Rattle.model.specs.Keeping.{Keeping, Shelf}
use Rattle.tenant.specs.Past.{KeepsPast}
use Rattle.book.specs.Standing.{Carries, CommitsHonestly, EntersHonestly, Hosted, IsHostOf, KeepNoTexts}
use Rattle.book.specs.Standing.{KeepNoTextsBut, KeepTexts, ReplaysAsWell, held_by}
use Rattle.handler.specs.Inputs.{Input}
use Rattle.model.specs.Addresses.{addressed}
use Rattle.model.specs.World.{World}
use Rattle.tenant.specs.Needs.{IsFresh}
use Rattle.book.specs.Commits.{needs_at}
use Rattle.book.specs.declared.committed.Committed.TheVariants.{Stale, Reply as Replied}
use Rattle.book.proofs.Devices.{counts_still}
use Rattle.book.proofs.Replays.{entered, is_added, none_added, said_honestly, same_name}

-- what a tenant's own step was answered, of the step that names the tenant
pub apart : {S : Type 0} (M : Meaning S) (whole : Step) (name : List ℕ) (step : TenantStep) (said : Said)
    (reply : Reply) (before after : Holding (TenantState S)) → addressed whole ≡ (name, step)
    → IsAnsweredAt M name step said reply before after → IsAnswered M whole said reply before after
apart M whole name step said reply before after is answered =
    subst (λ (p : List ℕ × TenantStep). IsAnsweredAt M p.0 p.1 said reply before after) (sym is) answered

module _ {S : Type 0} (M : Meaning S) where
  module _ (old new : Hosted (TenantState S)) where
    abbrev before : Holding (TenantState S)
    before = held_by old

    abbrev after : Holding (TenantState S)
    after = held_by new

    -- ---- nothing was changed

    -- it is the replay of the same history
    pub replays_still : (history : List Entry)
        → HoldsAsBefore before after → IsReplay M before history → IsReplay M after history
    replays_still history same replay = record {
      stands = λ t.
          subst (λ k. StandsAt M t k (world_of M t history) after.log.records) (sym (same.tenants t))
          (subst (λ r. StandsAt M t (before.at t) (world_of M t history) r) (sym same.records) (replay.stands t));
      keeps = λ t. subst (λ k. KeepsAt k (keeping_after M t history)) (sym (same.tenants t)) (replay.keeps t);
      just = λ t. subst (HasJustAt M t (keeping_after M t history)) (sym same.records) (replay.just t);
      order = same.order ∙ replay.order;
      legal = replay.legal;
      recorded = subst (IsRecordedIn M history) (sym same.records) replay.recorded;
      device = counts_still history before.log.failures after.log.failures same.up replay.device;
    }

    -- there was no memory for the step
    pub forgoes : (who : Who) (step : Step) → HoldsAsBefore before after
        → Carries (IsHostOf M) (EntersHonestly M who step (memory_reply step)) old new
    forgoes who step same book stands =
        let next : Ledger = record { history = book.history; log = after.log } in (
          next,
          record { replay = replays_still book.history same stands.replay; log = refl },
          (
            inr (
              refl,
              refl,
              subst (λ (l : Logged). after.log.records ≡ l.records) (sym stands.log) same.records,
              subst (λ (l : Logged). l.failures ≤ after.log.failures) (sym stands.log) same.up,
              subst (λ (l : Logged). after.log.failures ≡ l.failures) (sym stands.log) same.failures,
            ),
            none_added M book next refl,
          ),
        )

    -- ---- the step was done

    module _ (who : Who) (step : Step)
        (said : Said) (reply : Reply) (answered : IsAnswered M step said reply before after) where
      abbrev later : List Entry → Ledger
      later history = record {
        history =
            history ++ record { who = who; step = step; said = said; reply = reply } ∷ [];
        log = after.log;
      }

      -- it was entered
      pub adds : Carries (IsHostOf M) (λ was is. IsAdded was who step reply is) old new
      adds book stands = (
        later book.history,
        record { replay = entered M before after book.history _ stands.replay answered; log = refl },
        subst (λ (l : Logged). IsAdded (record { history = book.history; log = l }) who step reply (later book.history))
            (sym stands.log) (is_added M before after book.history _ stands.replay answered),
      )

      -- A step that was answered is entered honestly in each book that the host stood for.
      pub enters : Carries (IsHostOf M) (EntersHonestly M who step reply) old new
      enters book stands = (
        later book.history,
        record { replay = entered M before after book.history _ stands.replay answered; log = refl },
        (
          inl
              (subst (λ (l : Logged).
              IsAdded (record { history = book.history; log = l }) who step reply (later book.history))
              (sym stands.log) (is_added M before after book.history _ stands.replay answered)),
          subst (λ (l : Logged). IsSaidHonestly M (record { history = book.history; log = l }) (later book.history))
              (sym stands.log) (said_honestly M before after book.history _ stands.replay answered),
        ),
      )

    -- ---- by a turn that was worked

    -- a turn of this input will do, whichever world its tenant stands for
    abbrev Fits : Step → Input S → Type 0
    Fits step input = (w : Option World)
        → StandsAt M (addressed step).0 (before.at (addressed step).0) w before.log.records
        → IsFresh (needs_at M w (addressed step).1) input

    -- A step answered by a turn that fits is committed honestly in each book that the host stood for.
    pub commits : (who : Who) (step : Step) (said : Said) (reply : Reply) (input : Input S)
        → IsAnswered M step said reply before after → Fits step input
        → Carries (IsHostOf M) (CommitsHonestly M who step input (Replied reply)) old new
    commits who step said reply input answered fits book stands = (
      later who step said reply answered book.history,
      record { replay = entered M before after book.history _ stands.replay answered; log = refl },
      (
        inl (
          subst (λ (l : Logged). IsAdded (record { history = book.history; log = l })
              who step reply (later who step said reply answered book.history))
              (sym stands.log) (is_added M before after book.history _ stands.replay answered),
          fits (world_of M (addressed step).0 book.history) (stands.replay.stands (addressed step).0),
        ),
        subst (λ (l : Logged). IsSaidHonestly
            M (record { history = book.history; log = l }) (later who step said reply answered book.history))
            (sym stands.log) (said_honestly M before after book.history _ stands.replay answered),
      ),
    )

    -- Where nothing changed, a step with a worked turn is forgone in each book that the host stood for.
    pub forgoes_worked : (who : Who) (step : Step) (input : Input S) → HoldsAsBefore before after
        → Carries (IsHostOf M) (CommitsHonestly M who step input (Replied (memory_reply step))) old new
    forgoes_worked who step input same book stands =
        let next : Ledger = record { history = book.history; log = after.log } in (
          next,
          record { replay = replays_still book.history same stands.replay; log = refl },
          (
            inr (
              refl,
              refl,
              subst (λ (l : Logged). after.log.records ≡ l.records) (sym stands.log) same.records,
              subst (λ (l : Logged). l.failures ≤ after.log.failures) (sym stands.log) same.up,
              subst (λ (l : Logged). after.log.failures ≡ l.failures) (sym stands.log) same.failures,
            ),
            none_added M book next refl,
          ),
        )

    -- A step whose worked turn is stale is given back, and the host's books are as they were.
    pub gives_back : (who : Who) (step : Step) (input : Input S) → HoldsAsBefore before after → after.log ≡ before.log
        → ((w : Option World) → StandsAt M (addressed step).0 (before.at (addressed step).0) w before.log.records
        → ¬ IsFresh (needs_at M w (addressed step).1) input)
        → Carries (IsHostOf M) (CommitsHonestly M who step input (Stale step)) old new
    gives_back who step input same log stale book stands =
        let next : Ledger = record { history = book.history; log = after.log } in (
          next,
          record { replay = replays_still book.history same stands.replay; log = refl },
          (
            (
              refl,
              record { history = refl; log = log ∙ sym stands.log },
              stale (world_of M (addressed step).0 book.history) (stands.replay.stands (addressed step).0),
            ),
            none_added M book next refl,
          ),
        )

-- ---- behind a step the host changes, and stands for the same

-- What was carried to a host is carried to a later one with the same log that replays as well.
pub carries_on : {S : Type 0} (M : Meaning S) {Becomes : Ledger → Ledger → Type 0}
    (old mid new : Hosted (TenantState S)) → new.log ≡ mid.log
    → ReplaysAsWell M mid new → Carries (IsHostOf M) Becomes old mid → Carries (IsHostOf M) Becomes old new
carries_on M old mid new log as_well carried book stands =
    let then = carried book stands in (
      then.0,
      record { replay = as_well then.0.history then.1.replay; log = then.1.log ∙ sym log },
      then.2,
    )

module _ {S : Type 0} (M : Meaning S) (old new : Hosted (TenantState S)) (log : new.log ≡ old.log)
    (stands : (t : List ℕ) (w : Option World)
    → StandsAt M t ((held_by old).at t) w old.log.records → StandsAt M t ((held_by new).at t) w old.log.records)
    (keeps : (t : List ℕ) (k : Keeping) → KeepsAt ((held_by old).at t) k → KeepsAt ((held_by new).at t) k)
    (order : (held_by new).names ≡ (held_by old).names) where
  -- whoever stands for the same world under each name, and keeps the same of its past, is the same replay
  pub as_well : ReplaysAsWell M old new
  as_well history replay = record {
    stands = λ t. subst (λ (l : Logged). StandsAt M t ((held_by new).at t) (world_of M t history) l.records)
        (sym log) (stands t (world_of M t history) (replay.stands t));
    keeps = λ t. keeps t (keeping_after M t history) (replay.keeps t);
    just = λ t. subst (λ (l : Logged). HasJustAt M t (keeping_after M t history) l.records) (sym log) (replay.just t);
    order = order ∙ replay.order;
    legal = replay.legal;
    recorded = subst (λ (l : Logged). IsRecordedIn M history l.records) (sym log) replay.recorded;
    device = subst (λ (l : Logged). CountsDevice history l.failures) (sym log) replay.device;
  }

-- ---- texts that are kept

-- where one more is there, which has all of its texts
pub texts_more : {S : Type 0} (old new : List ℕ → Option (TenantState S)) (name : List ℕ) (v : Option (TenantState S))
    → new name ≡ v → IfSome v KeepsTexts
    → ((other : List ℕ) → bytes_eq other name ≡ false → new other ≡ old other) → KeepTexts old → KeepTexts new
texts_more old new name v is whole others kept =
    λ other k there. elim (bytes_eq other name) as (λ b. bytes_eq other name ≡ b → KeepsTexts k) [
      | true ↦ λ e. subst (λ o. IfSome o KeepsTexts) (sym is ∙ ap new (sym (same_name other name e)) ∙ there) whole
      | false ↦ λ e. kept other k (sym (others other e) ∙ there)
    ] refl

-- ---- no text is kept

-- where one more is there, which keeps none
pub none_more : {S : Type 0} (old new : List ℕ → Option (TenantState S)) (name : List ℕ) (v : Option (TenantState S))
    → new name ≡ v → IfSome v KeepsNoText
    → ((other : List ℕ) → bytes_eq other name ≡ false → new other ≡ old other) → KeepNoTexts old → KeepNoTexts new
none_more old new name v is without others none =
    λ other k there. elim (bytes_eq other name) as (λ b. bytes_eq other name ≡ b → KeepsNoText k) [
      | true ↦ λ e. subst (λ o. IfSome o KeepsNoText) (sym is ∙ ap new (sym (same_name other name e)) ∙ there) without
      | false ↦ λ e. none other k (sym (others other e) ∙ there)
    ] refl

-- where the unit that was released gives its texts up
pub none_then : {S : Type 0} (old new : List ℕ → Option (TenantState S)) (name : List ℕ) (step : TenantStep)
    (t v : TenantState S) → old name ≡ Some t → new name ≡ Some v
    → ((other : List ℕ) → bytes_eq other name ≡ false → new other ≡ old other)
    → (KeepsNoTextBut step t → KeepsNoText v) → KeepNoTextsBut name step old → KeepNoTexts new
none_then old new name step t v was is others gives but =
    λ other k there. elim (bytes_eq other name) as (λ b. bytes_eq other name ≡ b → KeepsNoText k) [
      | true ↦ λ e. subst KeepsNoText
          (same_Some v k (sym is ∙ ap new (sym (same_name other name e)) ∙ there)) (gives (but.own t was))
      | false ↦ λ e. but.others other k e (sym (others other e) ∙ there)
    ] refl

-- where no unit keeps a text, whatever the step was
pub none_still : {S : Type 0} (at : List ℕ → Option (TenantState S)) (name : List ℕ) (step : TenantStep)
    → KeepNoTexts at → KeepNoTextsBut name step at
none_still at name step none = record {
  own = λ k there unit texts has. inl (none name k there unit texts has);
  others = λ other k apart there. none other k there;
}

-- where no unit kept a text, none does but the one that the tenant's step released
pub none_but : {S : Type 0} (old new : List ℕ → Option (TenantState S)) (name : List ℕ) (step : TenantStep)
    (t v : TenantState S) → old name ≡ Some t → new name ≡ Some v
    → ((other : List ℕ) → bytes_eq other name ≡ false → new other ≡ old other)
    → (KeepsNoText t → KeepsNoTextBut step v) → KeepNoTexts old → KeepNoTextsBut name step new
none_but old new name step t v was is others leaves none = record {
  own = λ k there. subst (KeepsNoTextBut step) (same_Some v k (sym is ∙ there)) (leaves (none name t was));
  others = λ other k apart there. none other k (sym (others other apart) ∙ there);
}

-- where its tenant is not there
pub none_there : {S : Type 0} (at : List ℕ → Option (TenantState S)) (name : List ℕ) (step : TenantStep)
    → at name ≡ None → KeepNoTextsBut name step at → KeepNoTexts at
none_there at name step missing but =
    λ other k there. elim (bytes_eq other name) as (λ b. bytes_eq other name ≡ b → KeepsNoText k) [
      | true ↦ λ e. absurd (let h = sym (ap at (same_name other name e) ∙ missing) ∙ there in cc h)
      | false ↦ λ e. but.others other k e there
    ] refl

no_release : {step : TenantStep} {u : ℕ} {texts : List (List ℕ)}
    → (step ≡ Release u → ⊥) → (texts ≡ []) ⊎ (step ≡ Release u) → texts ≡ []
no_release not (inl e) = e
no_release not (inr e) = absurd (not e)

-- where the step was no release
pub none_released : {S : Type 0} (at : List ℕ → Option (TenantState S)) (name : List ℕ) (step : TenantStep)
    → ((unit : ℕ) → step ≡ Release unit → ⊥) → KeepNoTextsBut name step at → KeepNoTexts at
none_released at name step not but =
    λ other k there. elim (bytes_eq other name) as (λ b. bytes_eq other name ≡ b → KeepsNoText k) [
      | true ↦ λ e u texts kept.
          no_release (not u) (but.own k (ap at (sym (same_name other name e)) ∙ there) u texts kept)
      | false ↦ λ e. but.others other k e there
    ] refl

-- ---- texts that are given up

module _ {S : Type 0} (M : Meaning S) (t v : TenantState S) where
  module _ (stands : (name : List ℕ) (w : World) (records : List (Option Record))
      → Stands M name t w records → Stands M name v w records) where
    stands_at : (name : List ℕ) (w : Option World) (records : List (Option Record))
        → StandsAt M name (Some t) w records → StandsAt M name (Some v) w records
    stands_at name None records s = s
    stands_at name (Some w) records s = stands name w records s

  module _ (past : (w : World) (shelves : List Shelf) → KeepsPast t w shelves → KeepsPast v w shelves) where
    keeps_in : (w : Option World) (shelves : List Shelf) → KeepsIn (Some t) w shelves → KeepsIn (Some v) w shelves
    keeps_in None shelves k = k
    keeps_in (Some w) shelves k = past w shelves k

  module _ (old new : List ℕ → Option (TenantState S))
      (name : List ℕ) (was : old name ≡ Some t) (is : new name ≡ Some v)
      (others : (other : List ℕ) → bytes_eq other name ≡ false → new other ≡ old other) where
    -- what holds of each tenant goes on to hold
    each_goes_on : (P : List ℕ → Option (TenantState S) → Type 0)
        → ((n : List ℕ) → P n (Some t) → P n (Some v)) → (other : List ℕ) → P other (old other) → P other (new other)
    each_goes_on P on other p =
        elim (bytes_eq other name) as (λ b. bytes_eq other name ≡ b → P other (new other)) [
          | true ↦ λ e.
              let here : other ≡ name = same_name other name e in
              subst (P other) (sym is ∙ ap new (sym here)) (on other (subst (P other) (ap old here ∙ was) p))
          | false ↦ λ e. subst (P other) (sym (others other e)) p
        ] refl

    pub given_up_stands : ((n : List ℕ) (w : World) (records : List (Option Record))
        → Stands M n t w records → Stands M n v w records)
        → (other : List ℕ) (w : Option World) (records : List (Option Record))
        → StandsAt M other (old other) w records → StandsAt M other (new other) w records
    given_up_stands stands other w records =
        each_goes_on (λ n k. StandsAt M n k w records) (λ n. stands_at stands n w records) other

    pub given_up_keeps : ((w : World) (shelves : List Shelf) → KeepsPast t w shelves → KeepsPast v w shelves)
        → (other : List ℕ) (k : Keeping) → KeepsAt (old other) k → KeepsAt (new other) k
    given_up_keeps past other k = each_goes_on (λ n o. KeepsAt o k) (λ n. keeps_in past k.world k.shelves) other

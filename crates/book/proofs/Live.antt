-- The log has just the live records that a history leaves.
use Rattle.std.proofs.Common.{◌≡◌, ◌-◌, inl, inr, refl, sym, ◌∙◌, ap, subst, true, false, ℕ, Bool, List, [], ◌∷◌, ◌++◌}
use Rattle.std.proofs.Common.{arith, length, if◌then◌else◌, map}
use Rattle.std.specs.Prelude.{Option, Some, None, slice_get}
use Rattle.std.specs.List.{fold}
use Rattle.std.proofs.lemmas.List.{nil_from_length}
use Rattle.model.specs.Handler.{Meaning}
use Rattle.model.specs.Keeping.{Shelf, kept_if, shelves_after, shelves_in}
use Rattle.model.specs.Steps.{Outcome, can_open, kind_or_0, opened_with, with_unit}
use Rattle.model.specs.World.{Member, World}
use Rattle.model.specs.declared.names.Quota.{Quota}
use Rattle.model.specs.declared.records.Record.{Record}
use Rattle.model.specs.declared.replies.Entry.{Entry}
use Rattle.model.specs.declared.refusals.Refusal.TheVariants.{BadOpen}
use Rattle.model.specs.declared.replies.End.TheVariants.{Whole}
use Rattle.model.specs.declared.replies.Reply.{Reply}
use Rattle.model.specs.declared.replies.Reply.TheVariants.{Opened, Refused}
use Rattle.model.specs.declared.replies.Said.{Said}
use Rattle.model.specs.declared.steps.TenantStep.{TenantStep}
use Rattle.model.specs.declared.steps.TenantStep.TheVariants.{Open, Join, Post, Deliver, Flush, Checkpoint, Kill}
use Rattle.model.specs.declared.steps.TenantStep.TheVariants.{Restart, Notice, Release, Status}
use Rattle.theory.proofs.ListLaws.{get_append}
use Rattle.shared_log.specs.Logged.{Logged, places_from}
use Rattle.shared_log.proofs.LeftLaws.{same_grows}
use Rattle.tenant.specs.Answers.{Answer}
use Rattle.tenant.specs.Live.{AreLive, HasJust, KeepsJust, amount_live}
use Rattle.tenant.specs.Outcomes.{IsPlain}
use Rattle.tenant.specs.Stands.{Did, IsOpened, TenantState, Stands, StandsAt}
use Rattle.tenant.proofs.Live.{are_live}
use Rattle.book.specs.History.{DidAt, Holding, IsReplay, opened_by}
use Rattle.book.specs.Past.{HasJustAt, KeepsIn, KeepsJustAt, KeepsOnAt, LiveAfter, keeping_after}
use Rattle.book.proofs.PastKept.{keeping_world}

module _ {S : Type 0} (M : Meaning S) where
  -- ---- a step

  -- what is live after a step that came out so
  abbrev Left : List ℕ → TenantStep → List Shelf → List (Option Record) → Outcome → Type 0
  Left name d shelves records o = HasJust M name o.world (shelves_in o.world d o.reply shelves) records

  -- A step of an open tenant leaves just what the rules leave.
  pub just_open : (name : List ℕ)
      (old new : TenantState S) (d : TenantStep) (said : Said) (answer : Reply) (before after : Logged)
      → ((w : World) → Stands M name old w before.records → Did M name w new d said answer before after)
      → KeepsJust M name old d said answer before.records after.records
      → (w : Option World) → StandsAt M name (Some old) w before.records
      → KeepsJustAt M name w (Some old) (record { step = d; said = said }) before.records after.records
  just_open name old new d said answer before after did just None stands = absurd stands
  just_open name old new d said answer before after did just (Some w) stands = λ shelves k has.
      let done = did w stands in
      subst (Left name d shelves after.records) (sym done.steps.1)
      (just w done.steps.0 shelves stands done.steps.1 k has)

  -- ---- an opening

  -- each unit is at its beginning
  abbrev AreFresh : World → Type 0
  AreFresh w = (u : ℕ) (m : Member) → slice_get w.members u ≡ Some m → m.stable ≡ 1

  all_fresh : (home : ℕ) (names : List (List ℕ)) (w : World) → AreFresh w
      → AreFresh (fold (λ w n. with_unit home w (kind_or_0 (M.kind n))) w names)
  all_fresh home [] w h = h
  all_fresh home (n ∷ names) w h =
      all_fresh home names (with_unit home w (kind_or_0 (M.kind n))) (λ u m e. elim (get_append w.members _ m u e) [
        | inl f ↦ h u m f
        | inr f ↦ ap (λ (x : Member). x.stable) f.1
      ])

  fresh_none : (w : World) (u : ℕ) (m : Option Member) (s : Option Shelf)
      → ((n : Member) → m ≡ Some n → n.stable ≡ 1) → amount_live (kept_if M w u m s) ≡ 0
  fresh_none w u None s h = refl
  fresh_none w u (Some m) None h = refl
  fresh_none w u (Some m) (Some s) h = (let e = h m refl in
      let z : m.stable - 1 - s.base ≡ 0 = omega (arith, e) in z)

  opened_just : (name : List ℕ) (records : List (Option Record)) (d : TenantStep) (shelves : List Shelf)
      (kinds : List (List ℕ)) (quota : Quota) (optimism : ℕ) (b : Bool) → HasJust M name None shelves records
      → Left name d shelves records
      (if b then opened_with M kinds quota optimism else record { reply = Refused BadOpen; world = None })
  opened_just name records d shelves kinds quota optimism false has = has
  opened_just name records d shelves kinds quota optimism true has = λ u.
      let empty : World =
      record { quota = quota; optimism = optimism; members = []; nodes = []; table = [] } in
      let w : World = fold (λ w n. with_unit (length kinds) w (kind_or_0 (M.kind n))) empty kinds in
      let fresh = all_fresh (length kinds) kinds empty (λ u m e. absurd (cc e)) in
      let later = shelves_after w d (Opened (length kinds)) shelves in
      has u ∙ sym (fresh_none w u (slice_get w.members u) (slice_get later u) (λ n e. fresh u n e))

  -- A step of a tenant that isn't open leaves just what the rules leave.
  pub unopened_just : (name : List ℕ) (t : Option (TenantState S)) (d : TenantStep) (said : Said)
      (records : List (Option Record)) → KeepsJustAt M name None t (record { step = d; said = said }) records records
  unopened_just name t (Open kinds quota optimism) said records = λ shelves k has.
      opened_just name records (Open kinds quota optimism) shelves kinds quota optimism
      (can_open M kinds quota optimism) has
  unopened_just name t (Join kind) said records = λ shelves k has. has
  unopened_just name t (Post unit number text) said records = λ shelves k has. has
  unopened_just name t (Deliver l) said records = λ shelves k has. has
  unopened_just name t (Flush unit) said records = λ shelves k has. has
  unopened_just name t (Checkpoint unit) said records = λ shelves k has. has
  unopened_just name t (Kill unit) said records = λ shelves k has. has
  unopened_just name t (Restart unit) said records = λ shelves k has. has
  unopened_just name t (Notice unit) said records = λ shelves k has. has
  unopened_just name t (Release unit) said records = λ shelves k has. has
  unopened_just name t (Status unit) said records = λ shelves k has. has

  -- An opening was done, where the log is as it was.
  pub opened_did : (name : List ℕ) (kinds : List (List ℕ)) (quota : Quota) (optimism : ℕ) (a : Answer)
      (old new : List ℕ → Option (TenantState S)) (names later : List (List ℕ)) (log : Logged)
      → old name ≡ None → IsPlain a → IsOpened M kinds quota optimism a.reply (new name)
      → KeepsOnAt M None None (record { step = Open kinds quota optimism; said = a.said }) (new name)
      → later ≡ names ++ opened_by name (Open kinds quota optimism) a.reply
      → DidAt M name None (Open kinds quota optimism) a.said a.reply
      (record { at = old; names = names; log = log }) (record { at = new; names = later; log = log })
  opened_did name kinds quota optimism a old new names later log none plain opened keeps order =
      let end : a.said.end ≡ Whole = ap (λ (s : Said). s.end) plain in
      record {
        steps = (opened.0, opened.1, opened.2 name log.records);
        keeps = subst (λ (t : Option (TenantState S)). KeepsOnAt M None t
            (record { step = Open kinds quota optimism; said = a.said }) (new name)) (sym none) keeps;
        just = unopened_just name (old name) (Open kinds quota optimism) a.said log.records;
        logs = record {
          honest = (
            [],
            same_grows log.records log.records refl,
            (ap (λ (s : Said). s.appended) plain, end, refl),
          );
          device = λ e. absurd (cc (end, e));
          up = omega arith;
          steady = λ not. refl;
          once = omega arith;
        };
        order = order;
      }

  -- ---- a whole history

  module _ (name : List ℕ) (records : List (Option Record)) (shelves : List Shelf) where
    live_at : (t : Option (TenantState S)) (w : Option World) → StandsAt M name t w records → KeepsIn t w shelves
        → HasJust M name w shelves records → AreLive M name w shelves records
    live_at None None s k has = λ u.
        ap (map (slice_get records)) (nil_from_length (places_from name u 0 records) (has u))
    live_at None (Some w) s k has = absurd s
    live_at (Some t) None s k has = absurd s
    live_at (Some t) (Some w) s k has = are_live M name t w records shelves s k has

  -- What is the replay of a history has the live records that the history leaves, and no others.
  pub live_after : (book : Holding (TenantState S)) (history : List Entry) → IsReplay M book history
      → LiveAfter M history book.log.records
  live_after book history replay = record {
    are = λ t. live_at t book.log.records (keeping_after M t history).shelves (book.at t)
        (keeping_after M t history).world
        (subst (λ w. StandsAt M t (book.at t) w book.log.records) (sym (keeping_world M t history)) (replay.stands t))
        (replay.keeps t) (replay.just t);
    count = λ t u. replay.just t u;
  }

  -- Of a log without records no tenant has any.
  pub just_none : (name : List ℕ) (records : List (Option Record)) → records ≡ []
      → HasJustAt M name (keeping_after M name []) records
  just_none name records none u = ap (λ rs. length (places_from name u 0 rs)) none

-- Steps that do not touch the store.
use Rattle.std.proofs.Common.{refl, sym, subst, ℕ, List, []}
use Rattle.std.specs.Prelude.{IfOk, IfSome, Option, Some, None, Result, Ok, Err}
use Rattle.model.specs.declared.records.Record.{Record}
use Rattle.model.specs.declared.replies.Said.{Said}
use Rattle.model.specs.declared.steps.TenantStep.{TenantStep}
use Rattle.model.specs.Alone.{step_open}
use Rattle.model.specs.Handler.{Meaning}
use Rattle.model.specs.Records.{IsHonest, quiet}
use Rattle.model.specs.World.{World}
use Rattle.handler.specs.Inputs.{Input}
use Rattle.shared_log.specs.Logged.{Logged}
use Rattle.shared_log.proofs.LeftLaws.{same_grows}
use Rattle.tenant.specs.Answers.{Answer}
use Rattle.tenant.specs.Kept.{TenantState}
use Rattle.tenant.specs.Outcomes.{IsPlain}
use Rattle.tenant.specs.Stands.{Did, Stands, live_in}
use Rattle.tenant.specs.Needs.{WasFresh}
use Rattle.tenant.specs.Represents.{Does, DoesAs, StandsFor}
use Rattle.tenant.proofs.Standing.{closed, opened}

module _ {S : Type 0} (M : Meaning S) (name : List ℕ) (t v : TenantState S)
    (step : TenantStep) (before : Logged) (honest : (w : World) → IsHonest M name w step quiet []) where
  -- what a step does whatever the log, it does over this one
  pub plain_did : (a : Answer) → DoesAs M name (λ w. step_open M w step quiet) t a.reply v
      → IsPlain a → (w : World) → Stands M name t w before.records → Did M name w v step a.said a.reply before before
  plain_did a does plain w given =
      let s = opened given in
      let l = does (live_in name before.records) w s.whole s.stands in
      subst (λ (z : Said). Did M name w v step z a.reply before before) (sym plain) (record {
        steps = (l.0, l.1, closed (record { whole = s.whole; left = s.left; stands = l.2 }));
        logs = record {
          honest = ([], same_grows before.records before.records refl, honest w);
          device = λ f. absurd (cc f);
        };
      })

  -- A step without the store is done where its answer is the definitions' under the tenant's name.
  pub plain_ok : {E : Type 0} (r : Result Answer E)
      → IfOk r (λ a. DoesAs M name (λ w. step_open M w step quiet) t a.reply v) → IfOk r IsPlain
      → IfOk r (λ a. (w : World) → Stands M name t w before.records → Did M name w v step a.said a.reply before before)
  plain_ok (Ok a) does plain = plain_did a does plain
  plain_ok (Err e) does plain = tt

  -- so it does whatever the tenant's name
  pub any_did : (a : Answer) → Does M (λ w. step_open M w step quiet) t a.reply v
      → IsPlain a → (w : World) → Stands M name t w before.records → Did M name w v step a.said a.reply before before
  any_did a does plain = plain_did a (does name) plain

  -- A step without the store is done where its answer is the definitions' whatever the tenant's name.
  pub any_ok : {E : Type 0} (r : Result Answer E)
      → IfOk r (λ a. Does M (λ w. step_open M w step quiet) t a.reply v) → IfOk r IsPlain
      → IfOk r (λ a. (w : World) → Stands M name t w before.records → Did M name w v step a.said a.reply before before)
  any_ok (Ok a) does plain = any_did a does plain
  any_ok (Err e) does plain = tt

  some_did : (o : Option Answer)
      → IfSome o (λ a. DoesAs M name (λ w. step_open M w step quiet) t a.reply v) → IfSome o IsPlain
      → IfSome o (λ a. (w : World)
      → Stands M name t w before.records → Did M name w v step a.said a.reply before before)
  some_did None does plain = tt
  some_did (Some a) does plain = plain_did a does plain

  -- or by a turn that was worked
  pub some_ok : {E : Type 0} (r : Result (Option Answer) E)
      → IfOk r (λ o. IfSome o (λ a. DoesAs M name (λ w. step_open M w step quiet) t a.reply v))
      → IfOk r (λ o. IfSome o IsPlain)
      → IfOk r (λ o. IfSome o (λ a. (w : World)
      → Stands M name t w before.records → Did M name w v step a.said a.reply before before))
  some_ok (Ok o) does plain = some_did o does plain
  some_ok (Err e) does plain = tt

-- whether a turn will do shows whatever the log
pub fresh_ok : {S E : Type 0} (M : Meaning S) (name : List ℕ) (t : TenantState S) (records : List (Option Record))
    (needed : World → Option (Input S)) (input : Input S) (r : Result (Option Answer) E)
    → IfOk r (λ o. (live : ℕ → List ℕ) (w : World) (log : List Record)
    → StandsFor M name live t w log → WasFresh (needed w) input o)
    → IfOk r (λ o. (w : World) → Stands M name t w records → WasFresh (needed w) input o)
fresh_ok M name t records needed input (Ok o) h = λ w s. h (live_in name records) w (opened s).whole (opened s).stands
fresh_ok M name t records needed input (Err e) h = tt

-- What going back gives, once the store was asked for the records that it needs.
use Rattle.std.specs.Prelude.{◌≡◌, ◌⊎◌, ℕ, ◌+◌, ◌-◌, List, [], length, take, Option}
use Rattle.model.specs.Failures.{HasRisen}
use Rattle.model.specs.Handler.{Meaning}
use Rattle.model.specs.World.{incarnation_of}
use Rattle.model.specs.declared.refusals.Refusal.TheVariants.{Store}
use Rattle.model.specs.declared.replies.Reply.{Reply}
use Rattle.model.specs.declared.replies.Reply.TheVariants.{Refused}
use Rattle.compact.specs.Compact.{Progress}
use Rattle.shared_log.specs.Logged.{Grows, Logged, OthersKept, places_of}
use Rattle.tenant.specs.Answers.{Answer}
use Rattle.tenant.specs.Kept.{IsReplayed, TenantState, Member, returned_kept, live_count}
use Rattle.model.specs.Records.{quiet}
use Rattle.tenant.specs.Outcomes.{failing}

-- the unit went back to the target, and the records behind it are live no more
pub record Went {S : Type 0} (M : Meaning S) (name : List ℕ) (t : TenantState S) (u : ℕ) (m : Member S) (target : ℕ)
    (given : Reply) (a : Answer) (v : TenantState S) (before after : Logged) : Type 0 where
  pub said : a.said ≡ quiet
  pub reply : a.reply ≡ given
  pub progress : Option (Progress S)
  pub replayed : IsReplayed M before.records (places_of name u before) m.unit_state target (length t.members) progress
  pub back : v ≡ returned_kept t u m target (incarnation_of t.table u + 1) progress
  pub own : places_of name u after
      ≡ take (length (places_of name u before) - live_count m.unit_state + (target - m.unit_state.base))
      (places_of name u before)
  pub others : OthersKept name u before after
  pub grows : Grows before.records [] after.records

-- the device failed, and nothing was changed
pub record Failed {S : Type 0} (t : TenantState S) (a : Answer) (v : TenantState S)
    (before after : Logged) : Type 0 where
  pub said : a.said ≡ failing
  pub reply : a.reply ≡ Refused Store
  pub same : v ≡ t
  pub records : after.records ≡ before.records
  pub device : HasRisen before.failures after.failures

abbrev pub Returns : {S : Type 0} → Meaning S → List ℕ → TenantState S → ℕ → Member S → ℕ → Reply → Answer
    → TenantState S → Logged → Logged → Type 0
Returns M name t u m target given a v before after =
    Went M name t u m target given a v before after ⊎ Failed t a v before after

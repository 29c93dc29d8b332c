-- A unit that went back, and its records in the log.
use Rattle.std.proofs.Common.{◌≡◌, sym, ◌∙◌, ap, subst, ℕ, ◌+◌, ◌-◌, List, [], length, take}
use Rattle.std.specs.Prelude.{Option, Some, slice_get}
use Rattle.std.proofs.lemmas.Option.{same_Some}
use Rattle.model.specs.declared.records.Record.{Record}
use Rattle.model.specs.declared.replies.Reply.{Reply}
use Rattle.model.specs.Handler.{Meaning}
use Rattle.model.specs.World.{incarnation_of}
use Rattle.shared_log.specs.Logged.{Grows, Logged, OthersKept, places_of}
use Rattle.compact.specs.Compact.{Progress}
use Rattle.tenant.specs.Answers.{Answer}
use Rattle.tenant.specs.Kept.{IsReplayed, TenantState, Member, returned_kept, live_count}
use Rattle.tenant.specs.Outcomes.{IsPlain}
use Rattle.tenant.specs.Returns.{Went}
use Rattle.tenant.proofs.Places.{places_same}

module _ (name : List ℕ) (u : ℕ) (before mid after : Logged) (same : mid.records ≡ before.records) where
  -- A log that grew by no record since it had the same records has grown by none in all.
  pub grows_on : Grows mid.records [] after.records → Grows before.records [] after.records
  grows_on g = subst (λ (rs : List (Option Record)). Grows rs [] after.records) same g

  -- Other units' live records that stayed since the log had the same records stayed in all.
  pub others_on : OthersKept name u mid after → OthersKept name u before after
  others_on o n x other = o n x other ∙ places_same before mid same n x

  module _ {S : Type 0} (M : Meaning S) (t : TenantState S)
      (m q : Member S) (target : ℕ) (there : slice_get t.members u ≡ Some q) (found : slice_get t.members u ≡ Some m)
      (given : Reply) (a : Answer) (v : TenantState S) (keep skipped : ℕ) (progress : Option (Progress S)) where
    alike : q ≡ m
    alike = same_Some q m (sym there ∙ found)

    -- A unit that is rebuilt by replay, and whose later records are live no more, has gone back.
    pub went : (a.reply ≡ given) × IsPlain a
        → IsReplayed M before.records (places_of name u before) q.unit_state target (length t.members) progress
        → v ≡ returned_kept t u m target (incarnation_of t.table u + 1) progress
        → keep ≡ target - q.unit_state.base → skipped ≡ length (places_of name u before) - live_count q.unit_state
        → places_of name u after ≡ take (skipped + keep) (places_of name u mid) → OthersKept name u mid after
        → Grows mid.records [] after.records → Went M name t u m target given a v before after
    went plain replayed back count skips own others grows = record {
      said = plain.1;
      reply = plain.0;
      progress = progress;
      replayed = subst (λ (n : Member S). IsReplayed
          M before.records (places_of name u before) n.unit_state target (length t.members) progress) alike replayed;
      back = back;
      own = own ∙ (λ i. take ((skips
          ∙ ap (λ (n : Member S). length (places_of name u before) - live_count n.unit_state) alike) i + (count
          ∙ ap (λ (n : Member S). target - n.unit_state.base) alike) i) (places_same before mid same name u i));
      others = others_on others;
      grows = grows_on grows;
    }

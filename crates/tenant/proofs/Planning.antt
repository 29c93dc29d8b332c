-- What was planned for a receipt.
use Rattle.std.proofs.Common.{◌≡◌, sym, ◌∙◌, ap, ℕ, List, length}
use Rattle.std.specs.Prelude.{Option, Some, Ok, false, is_none, slice_get}
use Rattle.std.proofs.lemmas.Option.{same_Some}
use Rattle.model.specs.declared.names.Source.{Source}
use Rattle.model.specs.declared.records.Record.{Record}
use Rattle.model.specs.declared.refusals.Refusal.{Refusal}
use Rattle.model.specs.Handler.{Meaning, Turn}
use Rattle.handler.specs.Inputs.{Input, turn_upon_input}
use Rattle.model.specs.Nodes.{sends_within}
use Rattle.session.specs.Counts.{advanced}
use Rattle.compact.specs.Compact.{CompactLetter, Progress}
use Rattle.compact.specs.Steps.{Receipt}
use Rattle.rollback.specs.Units.{asking, recorded}
use Rattle.tenant.specs.declared.receipts.Plan.{Plan}
use Rattle.tenant.specs.Kept.{IsAsking, IsNext, TenantState, Member, next_vector_of}
use Rattle.tenant.specs.Outcomes.{IsPlain}
use Rattle.tenant.specs.Plans.{IsPlan, IsPlanned}
use Rattle.tenant.proofs.Asking.{asked_up}
use Rattle.tenant.proofs.PastKept.{letters_whole}

module _ {S : Type 0} (name : List ℕ) (t : TenantState S)
    (u : ℕ) (m : Member S) (q : Receipt) (turn : Turn S) (plan : Plan) (planned : IsPlanned t u m q turn (Ok plan))
    (refusal : Option Refusal)
    (source : Source) (text : List ℕ) (input : Input S) (is : IsAsking refusal m.unit_state source text input) where
  up : (p : Progress S) × (m.unit_state.progress ≡ Some p)
  up = let a = asked_up m.unit_state source text input is.asked in (a.0, a.1)

  plan_is : IsPlan t u m q turn up.0.sessions plan
  plan_is = planned.1 up.0 up.1

  -- The answer that is planned for a receipt is one without the store.
  pub planned_plain : IsPlain plan.answer
  planned_plain = plan_is.plain

  -- the record is of the unit's next interval
  pub planned_next : (M : Meaning S) → turn ≡ turn_upon_input M input → q.source ≡ source → q.text ≡ text
      → slice_get t.members u ≡ Some m → (n : Member S) → slice_get t.members u ≡ Some n
      → IsNext M n (recorded name plan.logged) turn
  planned_next M own from said at n there =
      let same : m ≡ n = same_Some m n (sym at ∙ there) in
      rw (← same) (record {
        room = is.room;
        mark = ap (λ (r : Record). r.mark.index) (plan_is.logged name);
        own = record {
          input = input;
          asked = (λ i. asking m.unit_state ((ap (λ (r : Record). r.source) (plan_is.logged name) ∙ from) i)
              ((ap (λ (r : Record). r.text) (plan_is.logged name) ∙ said) i)) ∙ is.asked;
          own = own;
        };
      })

  -- each letter has its content
  pub planned_whole : (i : ℕ) (c : CompactLetter) → slice_get plan.made.items i ≡ Some c → is_none c.content ≡ false
  planned_whole i c e = letters_whole u (next_vector_of t u m q) (advanced up.0.sessions q.source)
      (sends_within (length t.members) turn) i c (ap (λ ls. slice_get ls i) (sym plan_is.made) ∙ e)

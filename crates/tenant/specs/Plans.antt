-- What a receipt adds and answers.
use Rattle.std.specs.Prelude.{◌≡◌, ℕ, List, Some, None, Result, Ok, Err}
use Rattle.model.specs.declared.refusals.Refusal.{Refusal}
use Rattle.model.specs.Handler.{Turn}
use Rattle.session.specs.Counts.{Counts}
use Rattle.compact.specs.Compact.{Progress}
use Rattle.compact.specs.Steps.{Receipt}
use Rattle.rollback.specs.Units.{recorded}
use Rattle.tenant.specs.declared.receipts.Incoming.{Incoming}
use Rattle.tenant.specs.declared.receipts.Plan.{Plan}
use Rattle.tenant.specs.Kept.{TenantState, Member, next_letters_of, next_record_of, next_reply_of, turn_refusal_of}
use Rattle.tenant.specs.Outcomes.{IsPlain}

-- what is received, by values
abbrev pub arrived : Incoming → Receipt
arrived a = record { source = a.source; letter = a.letter; number = a.number; text = a.text; vector = a.vector.now }

-- The record, the letters and the answer are those of this receipt, whose turn is this one, where the unit's
-- sessions are these.
pub record IsPlan {S : Type 0} (t : TenantState S) (u : ℕ) (m : Member S) (q : Receipt) (turn : Turn S)
    (sessions : Counts) (plan : Plan) : Type 0 where
  pub logged : (name : List ℕ) → recorded name plan.logged ≡ next_record_of name t u m q
  pub made : plan.made.items ≡ next_letters_of t u m q turn sessions
  pub reply : plan.answer.reply ≡ next_reply_of t u m turn
  pub plain : IsPlain plan.answer

-- They are where the turn can be taken; or this is why it can't be.
abbrev pub IsPlanned : {S : Type 0} → TenantState S → ℕ → Member S → Receipt → Turn S → Result Plan Refusal
    → Type 0
IsPlanned {S} t u m q turn (Ok plan) =
    (turn_refusal_of t m turn ≡ None)
    × ((p : Progress S) → m.unit_state.progress ≡ Some p → IsPlan t u m q turn p.sessions plan)
IsPlanned t u m q turn (Err r) = turn_refusal_of t m turn ≡ Some r

-- The step `post`.
use Rattle.std.proofs.Common.{◌≡◌, sym, ◌∙◌, ap, subst, ℕ, List}
use Rattle.std.specs.Prelude.{Option, Some, None, Result, Ok, Err, IfOk, IfErr, slice_get}
use Rattle.model.specs.declared.names.Source.TheVariants.{Outside}
use Rattle.model.specs.declared.records.Record.{Record}
use Rattle.model.specs.declared.refusals.Refusal.{Refusal}
use Rattle.model.specs.declared.refusals.Refusal.TheVariants.{Down, NoUnit}
use Rattle.model.specs.declared.replies.End.TheVariants.{Whole}
use Rattle.model.specs.declared.replies.Reply.{Reply}
use Rattle.model.specs.declared.replies.Reply.TheVariants.{Refused}
use Rattle.model.specs.declared.steps.TenantStep.TheVariants.{Post}
use Rattle.model.specs.Handler.{Meaning, Turn}
use Rattle.model.specs.Nodes.{outside}
use Rattle.model.specs.World.{World}
use Rattle.model.specs.Steps.{accepted, first_refusal, post, post_to, turn_tests, turn_upon_receipt, post_front}
use Rattle.model.specs.Alone.{Reachable}
use Rattle.model.specs.Alone.Reachable.{stepped}
use Rattle.model.proofs.Places.{at_unit_found}
use Rattle.handler.specs.Inputs.{Input, turn_upon_input}
use Rattle.compact.specs.Compact.{Compact, Progress}
use Rattle.compact.specs.Steps.{StepResult, Receipt, accepted_of, at_unit_of, or_next, or_refused, post_of}
use Rattle.compact.specs.Steps.{post_refusal, posted, receiving_state}
use Rattle.compact.proofs.Receipts.{posts_follow}
use Rattle.compact.proofs.Tests.{posts_are_tested}
use Rattle.rollback.specs.Units.{asking, recorded}
use Rattle.unit_steps.specs.Receipts.{arrival_refusal, post_refused}
use Rattle.unit_steps.proofs.Seen.{posts_are_refused}
use Rattle.tenant.specs.Kept.{IsAsking, TenantState, Member, next_letters_of, next_record_of, next_reply_of}
use Rattle.tenant.specs.Kept.{received_kept, turn_refusal_of}
use Rattle.tenant.specs.Needs.{IsAsked, input_unless, post_needs, post_to_needs}
use Rattle.tenant.specs.declared.receipts.Plan.{Plan}
use Rattle.tenant.specs.Plans.{IsPlanned}
use Rattle.tenant.specs.Represents.{IsCompact, Leaves, StandsFor}
use Rattle.tenant.proofs.Asking.{Shown, asked_up, input_is, none_shown, refused_first, refused_none, shown}
use Rattle.tenant.proofs.Follow.{KeepsUnit, keeps, leaves}
use Rattle.tenant.proofs.Receiving.{received_is, reply_is, turn_refusal_is}

module _ {S : Type 0} (M : Meaning S) (name : List ℕ) (live : ℕ → List ℕ) (t : TenantState S)
    (w : World) (log : List Record) (s : StandsFor M name live t w log) (u number : ℕ) (text : List ℕ) where
  abbrev k : Compact S
  k = s.0

  reach : (z : World) → (post M w u number text).world ≡ Some z → Reachable M z
  reach z f = stepped (record { step = Post u number text; said = record { appended = 0; end = Whole } }) s.2.reached f

  -- ---- before the turn

  -- A post to a unit that isn't there needs no turn, and is refused.
  pub post_none : slice_get t.members u ≡ None
      → IsAsked (post_needs M w u number text) (post M w u number text) w (Err NoUnit)
  unfolding post_needs
  post_none e =
      let none = none_shown M name live t w log s u e in
      (ap (post_to_needs M w number text) none, refused_none w u (post_to M w u number text) none)

  module _ (m : Member S) (found : slice_get t.members u ≡ Some m) where
    x : KeepsUnit t live k u m
    x = keeps t live k s.1 u m found

    f : Shown M name w log u x.unit
    f = shown M name live t w log s u m x

    refusal_of : post_refusal k x.unit number text ≡ post_refused t.quota.volatile m.unit_state number text
    refusal_of = posts_are_refused M m.unit_state x.unit x.is.kept x.is.seen k number text
        ∙ ap (λ q. post_refused q.volatile m.unit_state number text) s.1.quota

    before : first_refusal (post_front w f.member number text) ≡ post_refused t.quota.volatile m.unit_state number text
    before = sym (posts_are_tested M name k w log s.2 u f.member x.unit f.at x.at number text) ∙ refusal_of

    -- A post that is refused before its turn needs no turn, and is refused so by the definitions.
    pub post_refused_first : (r : Refusal) → post_refused t.quota.volatile m.unit_state number text ≡ Some r
        → IsAsked (post_needs M w u number text) (post M w u number text) w (Err r)
    unfolding post_needs
    post_refused_first r e =
        let first : first_refusal (post_front w f.member number text) ≡ Some r = before ∙ e in (
          ap (post_to_needs M w number text) f.at ∙ ap (input_unless _) first,
          at_unit_found w u (post_to M w u number text) f.member f.at
              ∙ refused_first w (accepted M w u f.member (outside number text)) (post_front w f.member number text)
              (turn_tests M w f.member (turn_upon_receipt M w u f.member (outside number text))) r first,
        )

    asked_by : post_refused t.quota.volatile m.unit_state number text ≡ None
        → (input : Input S) → asking m.unit_state Outside text ≡ Some input → post_needs M w u number text ≡ Some input
    unfolding post_needs
    asked_by passes input asked = ap (post_to_needs M w number text) f.at
        ∙ (λ i. input_unless (input_is M name live t w log s u m x f Outside text input asked i) ((before ∙ passes) i))

    -- A post that is not refused before its turn needs the turn of the input that is asked.
    pub post_asked : post_refused t.quota.volatile m.unit_state number text ≡ None
        → (r : Result (Input S) Refusal) → IfOk r (λ input. asking m.unit_state Outside text ≡ Some input)
        → IfErr r (λ refusal. (refusal ≡ Down) × (m.unit_state.progress ≡ None))
        → IsAsked (post_needs M w u number text) (post M w u number text) w r
    post_asked passes (Ok input) a b = asked_by passes input a
    post_asked passes (Err refusal) a b =
        let down : post_refused t.quota.volatile m.unit_state number text ≡ Some Down =
        ap (arrival_refusal t.quota.volatile m.unit_state Outside number text) b.1 in
        absurd (cc (sym passes ∙ down))

    -- ---- upon the turn

    module _ (input : Input S)
        (is : IsAsking (post_refused t.quota.volatile m.unit_state number text) m.unit_state Outside text input) where
      turned : (o : Option Refusal) → turn_refusal_of t m (turn_upon_input M input) ≡ o → at_unit_of k (post_of M name
          k u number text) (slice_get k.units u) ≡ or_refused k (accepted_of M name k u (posted number text) x.unit) o
      turned o e =
          let after = turn_refusal_is M name live t w log s u m x (posted number text) input is.asked ∙ e in
          ap (at_unit_of k (post_of M name k u number text)) x.at
          ∙ (λ i. or_refused k
          (accepted_of M name k u (posted number text) x.unit) (or_next ((refusal_of ∙ is.passes) i) (after i)))

      -- A post that is refused for what its turn makes leaves the tenant as it was.
      pub post_refused_then : (r : Refusal) → turn_refusal_of t m (turn_upon_input M input) ≡ Some r
          → Leaves M name live (post M w u number text) (Refused r) t log
      post_refused_then r e = leaves M name live log (post M w u number text) reach _ (record {
        reply = Refused r;
        state = k;
      }) (posts_follow M name k w log s.2 u number text) (turned (Some r) e) t s.1

      pub post_done : turn_refusal_of t m (turn_upon_input M input) ≡ None → (p : Progress S)
          → m.unit_state.progress ≡ Some p → (reply : Reply) → reply ≡ next_reply_of t u m (turn_upon_input M input)
          → (v : TenantState S)
          → v ≡ received_kept M t u m (next_record_of name t u m (posted number text)) (turn_upon_input M input).outputs
          (next_letters_of t u m (posted number text) (turn_upon_input M input) p.sessions)
          → Leaves M name live (post M w u number text) reply v log
      post_done none p up reply answer v new =
          let q = posted number text in
          let told = reply_is M name live t w log s u m x q input is.asked in
          let kept = received_is M name live t w log s u m x q input is.asked p up is.room in
          let given : StepResult S = record { reply = reply; state = receiving_state M name k u q x.unit } in
          leaves M name live log (post M w u number text) reach _ given (posts_follow M name k w log s.2 u number text)
          (turned None none
          ∙ (λ i. record { reply = (told ∙ sym answer) i; state = receiving_state M name k u q x.unit }))
          v (subst (λ (v : TenantState S). IsCompact v live (receiving_state M name k u q x.unit)) (sym new) kept)

      -- so it is of what was planned
      pub post_planned : (turn : Turn S) → turn ≡ turn_upon_input M input → (q : Receipt) → q ≡ posted number text
          → (plan : Plan) → IsPlanned t u m q turn (Ok plan) → (reply : Reply) → reply ≡ plan.answer.reply
          → (v : TenantState S)
          → v ≡ received_kept M t u m (recorded name plan.logged) turn.outputs plan.made.items
          → Leaves M name live (post M w u number text) reply v log
      post_planned turn e q same plan planned reply told v new =
          let p = asked_up m.unit_state Outside text input is.asked in
          let made = planned.1 p.0 p.1 in
          post_done (ap (turn_refusal_of t m) (sym e)
          ∙ planned.0) p.0 p.1 reply (told ∙ made.reply ∙ ap (next_reply_of t u m) e) v
          (new ∙ (λ i. received_kept M t u m ((made.logged name ∙ ap (next_record_of name t u m) same) i) (e i).outputs
          ((made.made ∙ (λ j. next_letters_of t u m (same j) (e j) p.0.sessions)) i)))

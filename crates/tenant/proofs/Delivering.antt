-- The step `deliver`.
use Rattle.std.proofs.Common.{◌≡◌, refl, sym, ◌∙◌, ap, subst, ℕ, suc, List, [], ◌∷◌, length, map, arith}
use Rattle.std.specs.Prelude.{Option, Some, None, Result, Ok, Err, IfOk, IfErr, slice_get}
use Rattle.std.proofs.lemmas.Option.{same_Some, slice_get_past, slice_get_within}
use native.Mathlib.Decide.{dec_lt}
use Rattle.model.specs.declared.names.Mark.{Mark}
use Rattle.model.specs.declared.names.Source.TheVariants.{Unit as FromUnit}
use Rattle.model.specs.declared.records.Record.{Record}
use Rattle.model.specs.declared.refusals.Refusal.{Refusal}
use Rattle.model.specs.declared.refusals.Refusal.TheVariants.{Down, NoLetter, NoUnit}
use Rattle.model.specs.declared.replies.End.TheVariants.{Whole}
use Rattle.model.specs.declared.replies.Reply.{Reply}
use Rattle.model.specs.declared.replies.Reply.TheVariants.{Refused}
use Rattle.model.specs.declared.steps.TenantStep.TheVariants.{Deliver}
use Rattle.model.specs.Handler.{Meaning, Turn}
use Rattle.model.specs.Nodes.{Message, letter}
use Rattle.model.specs.Records.{vector_of}
use Rattle.model.specs.World.{World, executed}
use Rattle.model.specs.Steps.{accepted, deliver, deliver_to, first_refusal, if_letter, turn_tests, turn_upon_receipt}
use Rattle.model.specs.Steps.{deliver_front}
use Rattle.model.specs.Alone.{Reachable}
use Rattle.model.specs.Alone.Reachable.{stepped}
use Rattle.model.proofs.Places.{at_unit_found, get_below}
use Rattle.theory.proofs.Sending.{letters_made}
use Rattle.handler.specs.Inputs.{Input, turn_upon_input}
use Rattle.layer_laws.specs.Laws.{stable_lengths}
use Rattle.layer_laws.proofs.Unstable.{unstable_are_counted}
use Rattle.compact.specs.Compact.{Compact, CompactLetter, CompactUnit, Content, IsContent, IsLetter, Progress}
use Rattle.compact.specs.Compact.{content_of}
use Rattle.compact.specs.Steps.{StepResult, Receipt, accepted_of, at_unit_of, deliver_content, deliver_of}
use Rattle.compact.specs.Steps.{delivered, if_letter_of, lengths_of, letter_refusal, or_next, or_refused}
use Rattle.compact.specs.Steps.{receiving_state}
use Rattle.compact.proofs.Receipts.{deliveries_follow}
use Rattle.compact.proofs.Tests.{deliveries_are_tested, lengths_are}
use Rattle.rollback.specs.Units.{asking, recorded}
use Rattle.unit_steps.specs.Laws.{known_to}
use Rattle.unit_steps.specs.Receipts.{IsWithin, arrival_refusal, letter_refused, past_tests}
use Rattle.unit_steps.proofs.Seen.{letters_are_refused}
use Rattle.tenant.specs.declared.receipts.Plan.{Plan}
use Rattle.tenant.specs.Kept.{IsAsking, TenantState, Member, known_of, letter_refusal_of, next_letters_of}
use Rattle.tenant.specs.Kept.{next_record_of, next_reply_of, received_kept, turn_refusal_of}
use Rattle.tenant.specs.Needs.{IsAsked, deliver_needs, deliver_to_needs, input_unless, input_upon, letter_needs}
use Rattle.tenant.specs.Plans.{IsPlanned}
use Rattle.tenant.specs.Represents.{IsCompact, Leaves, StandsFor}
use Rattle.tenant.proofs.Asking.{Shown, asked_up, input_is, none_shown, refused_first, refused_none, shown}
use Rattle.tenant.proofs.Follow.{KeepsUnit, keeps, leaves}
use Rattle.tenant.proofs.Receiving.{received_is, reply_is, turn_refusal_is}

-- lists as long with the same elements
same_list : {X : Type 0} (f : X → ℕ) (xs : List X) (ns : List ℕ)
    → length ns ≡ length xs → ((i : ℕ) (x : X) → slice_get xs i ≡ Some x → slice_get ns i ≡ Some (f x)) → map f xs ≡ ns
same_list f [] [] h each = refl
same_list f [] (n ∷ ns) h each = absurd (omega (arith, h))
same_list f (x ∷ xs) [] h each = absurd (omega (arith, h))
same_list f (x ∷ xs) (n ∷ ns) h each =
    let first : f x ≡ n = sym (same_Some n (f x) (each 0 x refl)) in
    let rest = same_list f xs ns (omega (arith, h)) (λ i y e. each (suc i) y e) in
    λ j. first j ∷ rest j

-- where neither refuses, the second doesn't
next_none : (first next : Option Refusal) → or_next first next ≡ None → next ≡ None
next_none None next e = e
next_none (Some r) next e = absurd (cc e)

-- a letter of the world
record IsSent {S : Type 0} (M : Meaning S) (w : World) (l : ℕ) (c : CompactLetter) : Type 0 where
  pub message : Message
  pub at : slice_get (executed M w).letters l ≡ Some message
  pub is : IsLetter w l message c

module _ {S : Type 0} (M : Meaning S) (name : List ℕ) (live : ℕ → List ℕ)
    (t : TenantState S) (w : World) (log : List Record) (s : StandsFor M name live t w log) (l : ℕ) where
  abbrev k : Compact S
  k = s.0

  reach : (z : World) → (deliver M w l).world ≡ Some z → Reachable M z
  reach z f = stepped (record { step = Deliver l; said = record { appended = 0; end = Whole } }) s.2.reached f

  -- how many intervals of each unit are stable
  lengths_kept : lengths_of k ≡ t.stable_lengths
  lengths_kept = same_list (λ (x : CompactUnit S). x.stable) k.units t.stable_lengths s.1.stables (λ u x at.
      let within = slice_get_within k.units u x at in
      let width = s.1.width in
      let m = get_below t.members u (omega (arith, within, width)) in
      (s.1.members u m.0 x m.1 at).stable)

  -- ---- before the turn

  -- A delivery of a letter that isn't there needs no turn, and is refused.
  pub letter_none : slice_get t.letters l ≡ None → IsAsked (deliver_needs M w l) (deliver M w l) w (Err NoLetter)
  unfolding deliver_needs
  letter_none e =
      let none : slice_get (executed M w).letters l ≡ None = elim (dec_lt l (length (executed M w).letters)) [
        | yes q ↦
            let sent = s.2.represents.sent in
            let c = get_below k.letters l (omega (arith, q, sent)) in
            absurd (different c.0 (sym c.1 ∙ ap (λ (ls : List CompactLetter). slice_get ls l) s.1.letters ∙ e))
        | no q ↦ slice_get_past (executed M w).letters l (omega (arith, q))
      ] in
      (ap (letter_needs M w) none, ap (if_letter M w l) none)
    where
      different : (c : CompactLetter) → Some c ≡ None → ⊥
      different c e = cc e

  module _ (c : CompactLetter) (there : slice_get t.letters l ≡ Some c) where
    at_k : slice_get k.letters l ≡ Some c
    at_k = ap (λ (ls : List CompactLetter). slice_get ls l) s.1.letters ∙ there

    sent : IsSent M w l c
    sent =
        let within = slice_get_within k.letters l c at_k in
        let count = s.2.represents.sent in
        let r = get_below (executed M w).letters l (omega (arith, within, count)) in
        record { message = r.0; at = r.1; is = s.2.represents.letters l r.0 c r.1 at_k }

    abbrev received : Message
    received = sent.message

    -- it depends on no more units than there are
    pub letter_within : IsWithin (length t.stable_lengths) c.content
    letter_within = within c.content sent.is.content
      where
        within : (o : Option Content) → IsContent w l received o → IsWithin (length t.stable_lengths) o
        within None e = tt
        within (Some content) e =
            let made = letters_made M w.nodes l received sent.at in
            let long = (unstable_are_counted M w s.2.reached received.sender made).1 in
            let a : length content.vector ≡ length (vector_of w.nodes received.sender) =
            ap (λ (z : Content). length z.vector) e in
            let b : length (stable_lengths w) ≡ length t.stable_lengths =
            ap length (sym (lengths_are M name k w log s.2.reached s.2.represents) ∙ lengths_kept) in
            omega (arith, long, a, b)

    -- A delivery to a unit that isn't there needs no turn, and is refused.
    pub letter_no_unit : slice_get t.members c.receiver ≡ None
        → IsAsked (deliver_needs M w l) (deliver M w l) w (Err NoUnit)
    unfolding deliver_needs
    letter_no_unit e =
        let none : slice_get w.members received.receiver ≡ None =
        ap (slice_get w.members) (sym sent.is.receiver) ∙ none_shown M name live t w log s c.receiver e in (
          ap (letter_needs M w) sent.at ∙ ap (deliver_to_needs M w received) none,
          ap (if_letter M w l) sent.at ∙ refused_none w received.receiver (deliver_to M w l received) none,
        )

    module _ (m : Member S) (found : slice_get t.members c.receiver ≡ Some m) where
      x : KeepsUnit t live k c.receiver m
      x = keeps t live k s.1 c.receiver m found

      f : Shown M name w log c.receiver x.unit
      f = shown M name live t w log s c.receiver m x

      at_w : slice_get w.members received.receiver ≡ Some f.member
      at_w = ap (slice_get w.members) (sym sent.is.receiver) ∙ f.at

      unit_at : slice_get k.units received.receiver ≡ Some x.unit
      unit_at = ap (slice_get k.units) (sym sent.is.receiver) ∙ x.at

      known_is : known_to k x.unit ≡ known_of t m
      known_is = λ i. record { table = s.1.table i; rows = x.is.known i; stable_lengths = lengths_kept i }

      refusal_of : letter_refusal k x.unit c c.content ≡ letter_refusal_of t m c
      refusal_of = letters_are_refused M m.unit_state x.unit x.is.kept x.is.seen k c
          ∙ (λ i. letter_refused
          (known_is i) (s.1.optimism i) (s.1.quota i).volatile m.unit_state c.source c.content)

      before : first_refusal (deliver_front w received f.member) ≡ letter_refusal_of t m c
      before = sym (deliveries_are_tested M name k w log s.2 l received c sent.at at_k f.member x.unit at_w unit_at)
          ∙ refusal_of

      -- A delivery that is refused before its turn needs no turn, and is refused so by the definitions.
      pub letter_refused_first : (r : Refusal)
          → letter_refusal_of t m c ≡ Some r → IsAsked (deliver_needs M w l) (deliver M w l) w (Err r)
      unfolding deliver_needs
      letter_refused_first r e =
          let first : first_refusal (deliver_front w received f.member) ≡ Some r = before ∙ e in (
            ap (letter_needs M w) sent.at ∙ ap (deliver_to_needs M w received) at_w ∙ ap (input_unless _) first,
            ap (if_letter M w l) sent.at ∙ at_unit_found w received.receiver (deliver_to M w l received) f.member at_w
                ∙ refused_first w (accepted M w received.receiver f.member (letter l received.sender))
                (deliver_front w received f.member) (turn_tests M
                w f.member (turn_upon_receipt M w received.receiver f.member (letter l received.sender))) r first,
          )

      module _ (content : Content) (whole : c.content ≡ Some content) where
        content_is : content ≡ content_of w received
        content_is = subst (IsContent w l received) whole sent.is.content

        asked_by : letter_refusal_of t m c ≡ None → (input : Input S)
            → asking m.unit_state (FromUnit c.source) content.text ≡ Some input → deliver_needs M w l ≡ Some input
        unfolding deliver_needs
        asked_by passes input asked =
            ap (letter_needs M w) sent.at ∙ ap (deliver_to_needs M w received) at_w
            ∙ (λ i. input_unless (input_upon M w f.member (FromUnit (sym sent.is.source i))
            (sym (ap (λ (z : Content). z.text) content_is) i)) ((before ∙ passes) i))
            ∙ ap (λ (input : Input S). Some input)
            (input_is M name live t w log s c.receiver m x f (FromUnit c.source) content.text input asked)

        -- A delivery that is not refused before its turn needs the turn of the input that is asked.
        pub letter_asked : letter_refusal_of t m c ≡ None → (r : Result (Input S) Refusal)
            → IfOk r (λ input. asking m.unit_state (FromUnit c.source) content.text ≡ Some input)
            → IfErr r (λ refusal. (refusal ≡ Down) × (m.unit_state.progress ≡ None))
            → IsAsked (deliver_needs M w l) (deliver M w l) w r
        letter_asked passes (Ok input) a b = asked_by passes input a
        letter_asked passes (Err refusal) a b =
            let some : letter_refused (known_of t m) t.optimism
            t.quota.volatile m.unit_state c.source (Some content) ≡ None = (sym (ap (letter_refused
            (known_of t m) t.optimism t.quota.volatile m.unit_state c.source) whole) ∙ passes) in
            let none = next_none
            (first_refusal (past_tests (known_of t m) t.optimism m.unit_state content.vector)) (arrival_refusal
            t.quota.volatile m.unit_state (FromUnit c.source) content.number content.text m.unit_state.progress) some in
            let down : arrival_refusal t.quota.volatile
            m.unit_state (FromUnit c.source) content.number content.text m.unit_state.progress ≡ Some Down =
            ap (arrival_refusal t.quota.volatile m.unit_state (FromUnit c.source) content.number content.text) b.1 in
            absurd (cc (sym none ∙ down))

        -- ---- upon the turn

        module _ (input : Input S)
            (is : IsAsking (letter_refusal_of t m c) m.unit_state (FromUnit c.source) content.text input) where
          abbrev q : Receipt
          q = delivered l c content

          turned : (o : Option Refusal) → turn_refusal_of t m (turn_upon_input M input) ≡ o
              → deliver_of M name k l ≡ or_refused k (accepted_of M name k c.receiver q x.unit) o
          turned o e =
              let after = turn_refusal_is M name live t w log s c.receiver m x q input is.asked ∙ e in
              let pass : letter_refusal k x.unit c (Some content) ≡ None =
              ap (letter_refusal k x.unit c) (sym whole) ∙ refusal_of ∙ is.passes in
              ap (if_letter_of M name k l) at_k
              ∙ ap (at_unit_of k (deliver_content M name k l c c.content)) x.at
              ∙ ap (λ (o : Option Content). deliver_content M name k l c o x.unit) whole
              ∙ (λ i. or_refused k (accepted_of M name k c.receiver q x.unit) (or_next (pass i) (after i)))

          -- A delivery that is refused for what its turn makes leaves the tenant as it was.
          pub letter_refused_then : (r : Refusal) → turn_refusal_of t m (turn_upon_input M input) ≡ Some r
              → Leaves M name live (deliver M w l) (Refused r) t log
          letter_refused_then r e = leaves M name live log (deliver M w l) reach _ (record {
            reply = Refused r;
            state = k;
          }) (deliveries_follow M name k w log s.2 l) (turned (Some r) e) t s.1

          letter_done : turn_refusal_of t m (turn_upon_input M input) ≡ None
              → (p : Progress S) → m.unit_state.progress ≡ Some p
              → (reply : Reply) → reply ≡ next_reply_of t c.receiver m (turn_upon_input M input)
              → (v : TenantState S)
              → v ≡ received_kept M t c.receiver m (next_record_of name t c.receiver m q) (turn_upon_input
              M input).outputs (next_letters_of t c.receiver m q (turn_upon_input M input) p.sessions)
              → Leaves M name live (deliver M w l) reply v log
          letter_done none p up reply answer v new =
              let told = reply_is M name live t w log s c.receiver m x q input is.asked in
              let kept = received_is M name live t w log s c.receiver m x q input is.asked p up is.room in
              let given : StepResult S = record {
                reply = reply;
                state = receiving_state M name k c.receiver q x.unit;
              } in
              leaves M name live log (deliver M w l) reach _ given (deliveries_follow M name k w log s.2 l)
              (turned None none ∙ (λ i. record {
                reply = (told ∙ sym answer) i;
                state = receiving_state M name k c.receiver q x.unit;
              }))
              v (subst (λ (v : TenantState S).
              IsCompact v live (receiving_state M name k c.receiver q x.unit)) (sym new) kept)

          -- so it is of what was planned
          pub letter_planned : (turn : Turn S) → turn ≡ turn_upon_input M input → (plan : Plan)
              → IsPlanned t c.receiver m q turn (Ok plan) → (reply : Reply) → reply ≡ plan.answer.reply
              → (v : TenantState S)
              → v ≡ received_kept M t c.receiver m (recorded name plan.logged) turn.outputs plan.made.items
              → Leaves M name live (deliver M w l) reply v log
          letter_planned turn e plan planned reply told v new =
              let p = asked_up m.unit_state (FromUnit c.source) content.text input is.asked in
              let made = planned.1 p.0 p.1 in
              letter_done (ap (turn_refusal_of t m) (sym e)
              ∙ planned.0) p.0 p.1 reply (told ∙ made.reply ∙ ap (next_reply_of t c.receiver m) e) v
              (new ∙ (λ i. received_kept M t c.receiver m (made.logged name i) (e i).outputs
              ((made.made ∙ (λ j. next_letters_of t c.receiver m q (e j) p.0.sessions)) i)))

-- what is there, by what its parts are
pub content_parts : (sent : Option Content) (content : Content) (number : ℕ) (text : List ℕ) (vector : List Mark)
    → sent ≡ Some content → number ≡ content.number → text ≡ content.text → vector ≡ content.vector
    → sent ≡ Some (record { number = number; text = text; vector = vector })
content_parts _ content number text vector is n t v =
    is ∙ (λ i. Some (record { number = sym n i; text = sym t i; vector = sym v i }))

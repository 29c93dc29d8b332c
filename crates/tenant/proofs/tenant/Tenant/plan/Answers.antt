use Rattle.std.proofs.Common.{◌≡◌, ◌∙◌, ◌+◌, ap, length, rules}
use Rattle.std.specs.Prelude.{nat_lt}
use Rattle.std.specs.List.{filter}
use Rattle.std.proofs.lemmas.Option.{same_Some}
use Rattle.model.specs.Lists.{numbers_from}
use Rattle.model.specs.Nodes.{sends_within}
use Rattle.model.specs.declared.replies.Reply.TheVariants.{Accepted}
use Rattle.compact.specs.Compact.{Progress}
use Rattle.compact.specs.Steps.{letters_by}
use Rattle.compact.proofs.Received.{length_letters_by}
use Rattle.rollback.specs.Units.{Recovering}
use Rattle.session.specs.Counts.{advanced}
use Rattle.unit_steps.specs.Receipts.{mark_upon, vector_marked}
use Rattle.tenant.specs.Kept.{TenantState, next_mark_of, next_vector_of}
use Rattle.tenant.specs.Plans.{arrived}
use Rattle.tenant.proofs.tenant.Tenant.plan.Goals as goal

pub from_first-requires : goal.from_first-requires
from_first-requires g c =
    let made : c.len.result ≡ length (sends_within c.member_count-width.result c.args.turn.now) =
    c.len.ensures ∙ ap length c.in_ok-made.ensures ∙ length_letters_by c.args.unit _ _ _
    ∙ (λ i. length (filter (λ s. nat_lt s.0 c.member_count-width.result) (c.sends.ensures i))) in
    rw (made) c.in-None.ensures.room

pub returns : goal.returns
returns g c =
    let width = c.member_count-width.ensures in
    let unit_state : c.unit_state-unit_state.result.now ≡ c.args.member.now.unit_state =
    c.unit_state-unit_state.ensures in
    let all : c.len-letters.result ≡ length c.args.self.now.letters =
    c.len-letters.ensures ∙ ap (λ (t : TenantState _). length t.letters) c.self.view_is in
    let mark : c.mark_upon-mark.result ≡ next_mark_of c.args.self.now c.args.unit c.args.member.now =
    c.mark_upon-mark.ensures (rw (unit_state) c.requires.room)
    ∙ (λ i. mark_upon (ap (λ (t : TenantState _). t.table) c.self.view_is i) c.args.unit (unit_state i)) in
    let vector : c.in_ok-vector.vector
    ≡ next_vector_of c.args.self.now c.args.unit c.args.member.now (arrived c.args.arrival) =
    c.in_ok-vector.ensures
    ∙ (λ i. vector_marked (width i) c.args.unit (unit_state i) (mark i) c.args.arrival.vector.now) in
    let made : c.len.result ≡ length (sends_within (length c.args.self.now.members) c.args.turn.now) =
    c.len.ensures ∙ ap length c.in_ok-made.ensures ∙ length_letters_by c.args.unit _ _ _
    ∙ (λ i. length (filter (λ s. nat_lt s.0 (width i)) (c.sends.ensures i))) in
    let numbers : c.in_ok-numbers.numbers ≡ _ =
    c.in_ok-numbers.ensures ∙ (λ i. numbers_from (all i) (made i)) in (
      search rules,
      λ p up.
          let progress : c.in-Some-progress.progress.now ≡ p =
          same_Some _ _ (c.in-Some-progress.ensures ∙ ap (λ (r : Recovering _). r.progress) unit_state ∙ up) in
          let sessions : c.progress-2.inside.sessions ≡ p.sessions =
          ap (λ (q : Progress _). q.sessions) (c.progress-2.view_is ∙ progress) in
          record {
            logged = λ name. (λ i. record {
              tenant = name;
              unit = c.args.unit;
              mark = mark i;
              source = c.args.arrival.source;
              letter = c.args.arrival.letter;
              number = c.args.arrival.number;
              text = c.args.arrival.text;
              vector = vector i;
            });
            made = c.in_ok-made.ensures
                ∙ (λ i. letters_by c.args.unit (vector i) (advanced (sessions i) c.args.arrival.source)
                (filter (λ s. nat_lt s.0 (width i)) (c.sends.ensures i)));
            reply = λ i. Accepted (mark i) (c.held_count-held.ensures i + length (c.outputs.ensures i)) (numbers i);
            plain = search rules;
          },
    )

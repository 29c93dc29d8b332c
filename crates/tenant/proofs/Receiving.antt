-- A receipt that is taken.
use Rattle.std.proofs.Common.{◌≡◌, refl, sym, ◌∙◌, ap, subst, ℕ, ◌+◌, ◌<◌, ◌^◌, List, ◌++◌, length}
use Rattle.std.specs.Prelude.{Some, slice_set}
use Rattle.model.specs.declared.names.Row.{Row}
use Rattle.model.specs.declared.records.Record.{Record}
use Rattle.model.specs.declared.replies.Reply.TheVariants.{Accepted}
use Rattle.model.specs.Handler.{Meaning, Turn}
use Rattle.model.specs.Lists.{numbers_from}
use Rattle.model.specs.Nodes.{sends_within}
use Rattle.model.specs.Steps.{first_refusal}
use Rattle.model.specs.World.{World}
use Rattle.handler.specs.Inputs.{Input, turn_upon_input}
use Rattle.session.specs.Counts.{advanced}
use Rattle.output_commit.specs.Holds.{held_of}
use Rattle.compact.specs.Compact.{Compact, CompactLetter, Progress}
use Rattle.compact.specs.Steps.{Receipt, accepted_of, letters_by, new_letters, next_mark, next_record, next_vector}
use Rattle.compact.specs.Steps.{receiving_state, receiving_unit, tests_of_turn, turn_of_receipt, with_unit_at}
use Rattle.rollback.specs.Units.{IsKept, asking, places, took}
use Rattle.rollback.proofs.StaysKept.{kept_took}
use Rattle.rollback_laws.specs.Seen.{IsSeen}
use Rattle.rollback_laws.proofs.Receipts.{receipts_are_seen, turns_are_seen}
use Rattle.unit_steps.specs.Laws.{AreMade}
use Rattle.unit_steps.specs.Receipts.{mark_upon, turn_refused, vector_upon}
use Rattle.unit_steps.proofs.Seen.{vectors_are_made}
use Rattle.tenant.specs.Kept.{TenantState, Member, next_letters_of, next_mark_of, next_record_of, next_reply_of}
use Rattle.tenant.specs.Kept.{next_vector_of, received_kept, received_member, turn_refusal_of}
use Rattle.tenant.specs.Represents.{IsCompact, IsMember, StandsFor}
use Rattle.tenant.proofs.Follow.{KeepsUnit, with_one}

-- ---- more letters

-- the same letters on both sides
pub with_letters : {S : Type 0} (t : TenantState S) (live : ℕ → List ℕ) (k : Compact S)
    → IsCompact t live k → (letters others : List CompactLetter)
    → others ≡ letters → IsCompact (record t { letters = letters }) live (record k { letters = others })
with_letters t live k is letters others same = record {
  quota = is.quota;
  optimism = is.optimism;
  table = is.table;
  width = is.width;
  stables = is.stables;
  fronts = is.fronts;
  counts = is.counts;
  lines = is.lines;
  members = λ u m x e f. let i = is.members u m x e f in
      record {
        kept = i.kept;
        seen = i.seen;
        own = i.own;
        outputs = i.outputs;
        known = i.known;
        stable = i.stable;
        frontier = i.frontier;
        released = i.released;
        places = i.places;
      };
  letters = same;
}

module _ {S : Type 0} (M : Meaning S) (name : List ℕ)
    (live : ℕ → List ℕ) (t : TenantState S) (w : World) (log : List Record) (s : StandsFor M name live t w log) (u : ℕ)
    (m : Member S) (x : KeepsUnit t live s.0 u m)
    (q : Receipt) (input : Input S) (asked : asking m.unit_state q.source q.text ≡ Some input) where
  abbrev k : Compact S
  k = s.0

  abbrev turn : Turn S
  turn = turn_upon_input M input

  turn_is : turn_of_receipt M x.unit q ≡ turn
  turn_is = sym (turns_are_seen M m.unit_state x.unit x.is.seen q input asked)

  made : AreMade k u x.unit m.unit_state q
  made = vectors_are_made M m.unit_state x.unit x.is.kept x.is.seen k u q

  mark_is : next_mark k u x.unit ≡ next_mark_of t u m
  mark_is = made.mark ∙ ap (λ (rows : List Row). mark_upon rows u m.unit_state) s.1.table

  vector_is : next_vector k u x.unit q ≡ next_vector_of t u m q
  vector_is = made.vector ∙ (λ i. vector_upon (s.1.table i) (sym s.1.width i) u m.unit_state q.vector)

  record_is : next_record name k u x.unit q ≡ next_record_of name t u m q
  record_is = λ i. record {
    tenant = name;
    unit = u;
    mark = mark_is i;
    source = q.source;
    letter = q.letter;
    number = q.number;
    text = q.text;
    vector = vector_is i;
  }

  sends_are : sends_within (length k.units) (turn_of_receipt M x.unit q) ≡ sends_within (length t.members) turn
  sends_are = λ i. sends_within (sym s.1.width i) (turn_is i)

  -- it is refused for what its turn makes as the compact state says
  pub turn_refusal_is : first_refusal (tests_of_turn k x.unit (turn_of_receipt M x.unit q)) ≡ turn_refusal_of t m turn
  turn_refusal_is =
      λ i. turn_refused (s.1.quota i) (length (x.is.outputs i)) (length (s.1.letters i)) (sym s.1.width i) (turn_is i)

  -- and answered as it says
  pub reply_is : (accepted_of M name k u q x.unit).reply ≡ next_reply_of t u m turn
  reply_is = λ i. Accepted (mark_is i) (length (x.is.outputs i) + length (turn_is i).outputs)
      (numbers_from (length (s.1.letters i)) (length (sends_are i)))

  module _ (p : Progress S) (up : m.unit_state.progress ≡ Some p) (room : places m.unit_state < 2 ^ 32) where
    letters_are : k.letters ++ new_letters M k u q x.unit ≡ t.letters ++ next_letters_of t u m q turn p.sessions
    letters_are = λ i. s.1.letters i
        ++ letters_by u (vector_is i) (advanced (x.is.seen.now p up i).sessions q.source) (sends_are i)

    abbrev one : Member S
    one = received_member M m (next_record_of name t u m q) turn.outputs

    one_kept : IsKept one.unit_state
    one_kept = kept_took m.unit_state
        one.unit_state.progress one.unit_state.outside one.unit_state.intervals one.unit_state.volatile
        (record { vector = next_vector_of t u m q; letter = q.letter })
        (next_record_of name t u m q) x.is.kept room refl refl refl refl

    one_seen : IsSeen one.unit_state (receiving_unit M name k u q x.unit)
    one_seen = subst (λ (r : Record). IsSeen (took M m.unit_state r) (receiving_unit M name k u q x.unit))
        record_is (receipts_are_seen M m.unit_state x.unit x.is.kept x.is.seen name k u q)

    one_is : IsMember t live u one (receiving_unit M name k u q x.unit)
    one_is = record {
      kept = one_kept;
      seen = one_seen;
      own = x.is.own;
      outputs = λ i. x.is.outputs i ++ held_of (mark_is i) (turn_is i).outputs;
      known = x.is.known;
      stable = x.is.stable;
      frontier = x.is.frontier;
      released = x.is.released;
      places = x.is.places;
    }

    -- the tenant with one more interval keeps the compact state with one
    pub received_is : IsCompact (received_kept M t u m (next_record_of name t u m q)
        turn.outputs (next_letters_of t u m q turn p.sessions)) live (receiving_state M name k u q x.unit)
    received_is = with_letters (record t { members = slice_set t.members u one }) live (with_unit_at k u (receiving_unit
        M name k u q x.unit)) (with_one t live k s.1 u one (receiving_unit M name k u q x.unit) one_is)
        (t.letters ++ next_letters_of t u m q turn p.sessions) (k.letters ++ new_letters M k u q x.unit) letters_are

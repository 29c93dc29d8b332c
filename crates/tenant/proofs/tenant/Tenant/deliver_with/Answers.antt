use Rattle.std.proofs.Common.{refl, sym, ◌∙◌, ap}
use Rattle.std.proofs.lemmas.Bool.{false≢true}
use Rattle.handler.specs.Inputs.{turn_upon_input}
use Rattle.tenant.proofs.Asking.{refused_stays, turn_by}
use Rattle.tenant.proofs.Fresh.{fresh_none, fresh_same, not_fresh}
use Rattle.tenant.proofs.tenant.Tenant.deliver_with.Goals as goal

pub returns-then-not-is_same-clause-fresh : goal.returns-then-not-is_same-clause-fresh
returns-then-not-is_same-clause-fresh g c = λ live w log s.
    let asked = rw (c.in-Ok.is) at (c.ask_letter.ensures.asked c.args.name.now live w log s) in
    let same = c.if-not-is_same.ensures in
    not_fresh _ _ c.args.worked.input asked (λ e. false≢true (same.1 (e ∙ sym c.input.ensures)))

pub returns-in-Err-clause-fresh : goal.returns-in-Err-clause-fresh
returns-in-Err-clause-fresh g c = λ live w log s.
    let asked = rw (c.in-Err.is) at (c.ask_letter.ensures.asked c.args.name.now live w log s) in
    fresh_none _ c.args.worked.input asked.0

pub returns-in-Err-clause-done : goal.returns-in-Err-clause-done
returns-in-Err-clause-done g c = λ live w log s.
    let asked = rw (c.in-Err.is) at (c.ask_letter.ensures.asked c.args.name.now live w log s) in
    refused_stays g.H.Handler.meaning c.args.name.now live c.args.self.now w log s _ _ _ asked.1 c.refused.ensures.reply

pub returns-in_ok-answer-in-Ok-clause-fresh : goal.returns-in_ok-answer-in-Ok-clause-fresh
returns-in_ok-answer-in-Ok-clause-fresh g c = λ live w log s.
    let asked = rw (c.in-Ok.is) at (c.ask_letter.ensures.asked c.args.name.now live w log s) in
    let same = c.if-not-is_same.ensures in
    fresh_same _ _ c.args.worked.input asked (same.0 refl ∙ c.input.ensures)

pub take_letter-requires-clause-own : goal.take_letter-requires-clause-own
take_letter-requires-clause-own g c κs within = λ l m found at.
    let asked = rw (c.in-Ok.is) at c.ask_letter.ensures.input in
    let same = c.if-not-is_same.ensures.0 refl ∙ c.input.ensures in
    turn_by g.H.Handler.meaning c.args.self.now m l l.content c.in-Ok.ask c.into_turn-turn.result
    (asked l m found at) (c.into_turn-turn.ensures ∙ ap (turn_upon_input g.H.Handler.meaning) (sym same))

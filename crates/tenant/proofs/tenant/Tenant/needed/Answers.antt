use Rattle.std.proofs.Common.{sym, ◌∙◌, ap}
use Rattle.std.specs.Prelude.{Some}
use Rattle.handler.specs.Inputs.{Input}
use Rattle.tenant.specs.Needs.{needs}
use Rattle.tenant.proofs.tenant.Tenant.needed.Goals as goal

pub returns-in_ok-to_ask-in-Ok : goal.returns-in_ok-to_ask-in-Ok
returns-in_ok-to_ask-in-Ok g c = λ name live w log s.
    let asked = rw (c.in-Ok.is) at (c.ask_post.ensures.asked name live w log s) in
    ap (λ (x : Input _). Some x) c.in_ok-to_ask-in-Ok.ensures ∙ sym asked
    ∙ ap (needs g.H.Handler.meaning w) (sym c.in-Post.is)

pub returns-in-Err : goal.returns-in-Err
returns-in-Err g c = λ name live w log s.
    let asked = rw (c.in-Err.is) at (c.ask_post.ensures.asked name live w log s) in
    sym asked.0 ∙ ap (needs g.H.Handler.meaning w) (sym c.in-Post.is)

pub returns-in_ok-to_ask-in-Ok-ask_letter : goal.returns-in_ok-to_ask-in-Ok-ask_letter
returns-in_ok-to_ask-in-Ok-ask_letter g c = λ name live w log s.
    let asked = rw (c.in-Ok-ask_letter.is) at (c.ask_letter.ensures.asked name live w log s) in
    ap (λ (x : Input _). Some x) c.in_ok-to_ask-in-Ok-ask_letter.ensures ∙ sym asked
    ∙ ap (needs g.H.Handler.meaning w) (sym c.in-Deliver.is)

pub returns-in-Err-ask_letter : goal.returns-in-Err-ask_letter
returns-in-Err-ask_letter g c = λ name live w log s.
    let asked = rw (c.in-Err-ask_letter.is) at (c.ask_letter.ensures.asked name live w log s) in
    sym asked.0 ∙ ap (needs g.H.Handler.meaning w) (sym c.in-Deliver.is)

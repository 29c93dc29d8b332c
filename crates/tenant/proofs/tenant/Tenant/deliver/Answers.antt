use Rattle.tenant.proofs.Asking.{refused_stays, turn_by}
use Rattle.tenant.proofs.tenant.Tenant.deliver.Goals as goal

pub returns-in-Err-clause-done : goal.returns-in-Err-clause-done
returns-in-Err-clause-done g c = λ live w log s.
    let asked = rw (c.in-Err.is) at (c.ask_letter.ensures.asked c.args.name.now live w log s) in
    refused_stays g.H.Handler.meaning c.args.name.now live c.args.self.now w log s _ _ _ asked.1 c.refused.ensures.reply

pub take_letter-requires-clause-own : goal.take_letter-requires-clause-own
take_letter-requires-clause-own g c κs within = λ l m found at.
    let asked = rw (c.in-Ok.is) at c.ask_letter.ensures.input in
    turn_by g.H.Handler.meaning c.args.self.now m l l.content c.in-Ok.ask c.in_ok-turn-in-Ok.turn (asked l m found at)
    c.in_ok-turn-in-Ok.ensures

use Rattle.tenant.proofs.Asking.{refused_stays}
use Rattle.tenant.proofs.tenant.Tenant.post.Goals as goal

pub returns-in-Err-clause-done : goal.returns-in-Err-clause-done
returns-in-Err-clause-done g c = λ live w log s.
    let asked = rw (c.in-Err.is) at (c.ask_post.ensures.asked c.args.name.now live w log s) in
    refused_stays g.H.Handler.meaning c.args.name.now live c.args.self.now w log s _ _ _ asked.1 c.refused.ensures.reply

pub take_post-requires-clause-own : goal.take_post-requires-clause-own
take_post-requires-clause-own g c κs within = λ m at.
    let asked = rw (c.in-Ok.is) at c.ask_post.ensures.input in
    record { input = c.in-Ok.ask; asking = asked m at; own = c.in_ok-turn-in-Ok.ensures }

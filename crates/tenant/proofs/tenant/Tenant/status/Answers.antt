use Rattle.std.proofs.Common.{ap, sym, ◌∙◌}
use Rattle.model.specs.Steps.{Outcome}
use Rattle.tenant.specs.Stands.{live_in}
use Rattle.tenant.proofs.Standing.{opened}
use Rattle.tenant.proofs.tenant.Tenant.status.Goals as goal

pub returns : goal.returns
returns g c = λ name w records s. c.into_reply.ensures
    ∙ sym (ap (λ (o : Outcome). o.reply)
    (c.answer_status.ensures.done name (live_in name records) w (opened s).whole (opened s).stands).1)

use Rattle.shards.proofs.Hosts.{told_alone}
use Rattle.shards.proofs.stepping.pass_step.Goals as goal

pub returns : goal.returns
returns g c drives =
    (_, told_alone g.H.Handler.meaning drives _ c.args.step c.step.result _ c.step.ensures.entered)

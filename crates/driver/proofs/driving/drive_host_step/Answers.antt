use Rattle.lines.specs.Serving.{HostDoes}
use Rattle.driver.proofs.Rounds.{calls_do, step_round_as}
use Rattle.driver.proofs.driving.drive_host_step.Goals as goal

pub returns : goal.returns
returns g c =
    let M = g.H.Handler.meaning in
    let is = c.drive_step.ensures in (
      is.0,
      step_round_as _ (HostDoes M) (calls_do _ _ (HostDoes M) (λ p q step reply is. is.1)) c.args.read _ is.0 _ is.1,
      is.2,
    )

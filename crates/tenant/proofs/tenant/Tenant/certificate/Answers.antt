use Rattle.tenant.specs.Stands.{live_in}
use Rattle.tenant.proofs.Certifying.{is_kept_of}
use Rattle.tenant.proofs.Standing.{opened}
use Rattle.tenant.proofs.tenant.Tenant.certificate.Goals as goal

pub returns : goal.returns
returns g c = λ w records s legal made. c.in_ok-moves.ensures.opened legal w made (is_kept_of g.H.Handler.meaning
    c.args.name.now (live_in c.args.name.now records) c.args.self.now w (opened s).whole (opened s).stands)

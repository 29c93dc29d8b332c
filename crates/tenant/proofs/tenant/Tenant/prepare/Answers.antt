use Rattle.tenant.specs.Stands.{live_in}
use Rattle.tenant.proofs.Results.{if_ok}
use Rattle.tenant.proofs.Standing.{opened}
use Rattle.tenant.proofs.tenant.Tenant.prepare.Goals as goal

pub returns : goal.returns
returns g c = if_ok _ _ c.needed.result
    (λ a h name w records s. h name (live_in name records) w (opened s).whole (opened s).stands) c.needed.ensures

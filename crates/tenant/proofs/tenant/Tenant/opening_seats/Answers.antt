use Rattle.std.proofs.Common.{◌≡◌, ◌∙◌, ap}
use Rattle.tenant.specs.Kept.{TenantState}
use Rattle.tenant.specs.Reads.{opening_of, seats_of}
use Rattle.tenant.specs.Stands.{live_in}
use Rattle.tenant.proofs.Reading.{opening_same}
use Rattle.tenant.proofs.Standing.{opened}
use Rattle.tenant.proofs.tenant.Tenant.opening_seats.Goals as goal

pub returns : goal.returns
returns g c = λ name w records s.
    let members : c.as_slice-members.result.now ≡ c.args.self.now.members =
    c.as_slice-members.ensures.value ∙ ap (λ (t : TenantState _). t.members) c.self.view_is in
    c.in_ok-seats.ensures ∙ ap (λ ms. opening_of (seats_of ms)) members ∙ opening_same
    g.H.Handler.meaning name (live_in name records) c.args.self.now w (opened s).whole (opened s).stands

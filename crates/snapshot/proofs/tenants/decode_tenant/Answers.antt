use Rattle.std.proofs.Common.{◌≡◌, sym}
use Rattle.codec.specs.Codes.{Unless}
use Rattle.snapshot.specs.Tenants.{FitsTenant, tenant_code}
use Rattle.codec.specs.declared.fault.DecodeFault.TheVariants.{NoMemory}
use Rattle.snapshot.proofs.Faults.{failed}
use Rattle.snapshot.proofs.tenants.decode_tenant.Goals as goal

pub returns-in_err-stable_lengths-clause-err : goal.returns-in_err-stable_lengths-clause-err
returns-in_err-stable_lengths-clause-err g c = failed c.from_residual-in_err-stable_lengths.result
    c.in_err-stable_lengths.field-0.0
    (λ e. Unless (tenant_code g.H.Portable.state_code) (FitsTenant g.H.Portable.state_fits) c.args.input.now (e
    ≡ NoMemory)) c.from_residual-in_err-stable_lengths.ensures.1
    (λ v rest fit is.
    let quota = c.in_ok-quota.ensures.ok v.quota _ fit.quota is in
    let optimism = c.in_ok-optimism.ensures.ok v.optimism _ fit.optimism (sym quota.1) in
    let table = c.in_ok-table.ensures.ok v.table _ fit.table (sym optimism.1) in
    let members = c.in_ok-members.ensures.ok v.members _ fit.members (sym table.1) in
    c.in_err-stable_lengths.ensures.err v.stable_lengths _ fit.stable_lengths (sym members.1))

pub returns-in_err-frontiers-clause-err : goal.returns-in_err-frontiers-clause-err
returns-in_err-frontiers-clause-err g c = failed c.from_residual-in_err-frontiers.result c.in_err-frontiers.field-0.0
    (λ e. Unless (tenant_code g.H.Portable.state_code) (FitsTenant g.H.Portable.state_fits) c.args.input.now (e
    ≡ NoMemory)) c.from_residual-in_err-frontiers.ensures.1
    (λ v rest fit is.
    let quota = c.in_ok-quota.ensures.ok v.quota _ fit.quota is in
    let optimism = c.in_ok-optimism.ensures.ok v.optimism _ fit.optimism (sym quota.1) in
    let table = c.in_ok-table.ensures.ok v.table _ fit.table (sym optimism.1) in
    let members = c.in_ok-members.ensures.ok v.members _ fit.members (sym table.1) in
    let stable_lengths = c.in_ok-stable_lengths.ensures.ok v.stable_lengths _ fit.stable_lengths (sym members.1) in
    c.in_err-frontiers.ensures.err v.frontiers _ fit.frontiers (sym stable_lengths.1))

pub returns-in_err-outlet-clause-err : goal.returns-in_err-outlet-clause-err
returns-in_err-outlet-clause-err g c = failed c.from_residual-in_err-outlet.result c.in_err-outlet.field-0.0
    (λ e. Unless (tenant_code g.H.Portable.state_code) (FitsTenant g.H.Portable.state_fits) c.args.input.now (e
    ≡ NoMemory)) c.from_residual-in_err-outlet.ensures.1
    (λ v rest fit is.
    let quota = c.in_ok-quota.ensures.ok v.quota _ fit.quota is in
    let optimism = c.in_ok-optimism.ensures.ok v.optimism _ fit.optimism (sym quota.1) in
    let table = c.in_ok-table.ensures.ok v.table _ fit.table (sym optimism.1) in
    let members = c.in_ok-members.ensures.ok v.members _ fit.members (sym table.1) in
    let stable_lengths = c.in_ok-stable_lengths.ensures.ok v.stable_lengths _ fit.stable_lengths (sym members.1) in
    let frontiers = c.in_ok-frontiers.ensures.ok v.frontiers _ fit.frontiers (sym stable_lengths.1) in
    c.in_err-outlet.ensures.err (v.gone, v.released) _ fit.outlet (sym frontiers.1))

pub returns-in_err-letters-clause-err : goal.returns-in_err-letters-clause-err
returns-in_err-letters-clause-err g c = failed c.from_residual-in_err-letters.result c.in_err-letters.field-0.0
    (λ e. Unless (tenant_code g.H.Portable.state_code) (FitsTenant g.H.Portable.state_fits) c.args.input.now (e
    ≡ NoMemory)) c.from_residual-in_err-letters.ensures.1
    (λ v rest fit is.
    let quota = c.in_ok-quota.ensures.ok v.quota _ fit.quota is in
    let optimism = c.in_ok-optimism.ensures.ok v.optimism _ fit.optimism (sym quota.1) in
    let table = c.in_ok-table.ensures.ok v.table _ fit.table (sym optimism.1) in
    let members = c.in_ok-members.ensures.ok v.members _ fit.members (sym table.1) in
    let stable_lengths = c.in_ok-stable_lengths.ensures.ok v.stable_lengths _ fit.stable_lengths (sym members.1) in
    let frontiers = c.in_ok-frontiers.ensures.ok v.frontiers _ fit.frontiers (sym stable_lengths.1) in
    let outlet = c.in_ok-outlet.ensures.ok (v.gone, v.released) _ fit.outlet (sym frontiers.1) in
    c.in_err-letters.ensures.err v.letters _ fit.letters (sym outlet.1))

pub returns-clause-ok : goal.returns-clause-ok
returns-clause-ok g c = λ v rest fit is.
    let quota = c.in_ok-quota.ensures.ok v.quota _ fit.quota is in
    let optimism = c.in_ok-optimism.ensures.ok v.optimism _ fit.optimism (sym quota.1) in
    let table = c.in_ok-table.ensures.ok v.table _ fit.table (sym optimism.1) in
    let members = c.in_ok-members.ensures.ok v.members _ fit.members (sym table.1) in
    let stable_lengths = c.in_ok-stable_lengths.ensures.ok v.stable_lengths _ fit.stable_lengths (sym members.1) in
    let frontiers = c.in_ok-frontiers.ensures.ok v.frontiers _ fit.frontiers (sym stable_lengths.1) in
    let outlet = c.in_ok-outlet.ensures.ok (v.gone, v.released) _ fit.outlet (sym frontiers.1) in
    let letters = c.in_ok-letters.ensures.ok v.letters _ fit.letters (sym outlet.1) in (
      λ i. record {
        quota = quota.0 i;
        optimism = optimism.0 i;
        table = table.0 i;
        members = members.0 i;
        stable_lengths = stable_lengths.0 i;
        frontiers = frontiers.0 i;
        gone = (outlet.0 i).0;
        released = (outlet.0 i).1;
        letters = letters.0 i;
      },
      letters.1,
    )

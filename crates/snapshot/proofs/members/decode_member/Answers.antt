use Rattle.std.proofs.Common.{◌≡◌, ◌∙◌, sym}
use Rattle.codec.specs.Codes.{Unless}
use Rattle.snapshot.specs.Tenants.{FitsMember, member_code}
use Rattle.codec.specs.declared.fault.DecodeFault.TheVariants.{NoMemory}
use Rattle.snapshot.proofs.Faults.{failed}
use Rattle.snapshot.proofs.members.decode_member.Goals as goal

pub returns-in_err-hold-clause-err : goal.returns-in_err-hold-clause-err
returns-in_err-hold-clause-err g c = failed c.from_residual-in_err-hold.result c.in_err-hold.field-0.0
    (λ e. Unless (member_code g.H.Portable.state_code) (FitsMember g.H.Portable.state_fits) c.args.input.now (e
    ≡ NoMemory)) c.from_residual-in_err-hold.ensures.1
    (λ v rest fit is.
    let unit_state = c.in_ok-unit_state.ensures.ok v.unit_state _ fit.unit_state is in
    c.in_err-hold.ensures.err (v.unit, v.outputs) _ fit.hold (sym unit_state.1))

pub returns-in_err-known-clause-err : goal.returns-in_err-known-clause-err
returns-in_err-known-clause-err g c = failed c.from_residual-in_err-known.result c.in_err-known.field-0.0
    (λ e. Unless (member_code g.H.Portable.state_code) (FitsMember g.H.Portable.state_fits) c.args.input.now (e
    ≡ NoMemory)) c.from_residual-in_err-known.ensures.1
    (λ v rest fit is.
    let unit_state = c.in_ok-unit_state.ensures.ok v.unit_state _ fit.unit_state is in
    let hold = c.in_ok-hold.ensures.ok (v.unit, v.outputs) _ fit.hold (sym unit_state.1) in
    c.in_err-known.ensures.err v.known _ fit.known (sym hold.1))

pub returns-in_err-first_put-clause-err : goal.returns-in_err-first_put-clause-err
returns-in_err-first_put-clause-err g c = failed c.from_residual-in_err-first_put.result c.in_err-first_put.field-0.0
    (λ e. Unless (member_code g.H.Portable.state_code) (FitsMember g.H.Portable.state_fits) c.args.input.now (e
    ≡ NoMemory)) c.from_residual-in_err-first_put.ensures.1
    (λ v rest fit is.
    let unit_state = c.in_ok-unit_state.ensures.ok v.unit_state _ fit.unit_state is in
    let hold = c.in_ok-hold.ensures.ok (v.unit, v.outputs) _ fit.hold (sym unit_state.1) in
    let known = c.in_ok-known.ensures.ok v.known _ fit.known (sym hold.1) in
    c.in_err-first_put.ensures.err v.first_put _ tt (sym known.1))

pub returns-clause-ok : goal.returns-clause-ok
returns-clause-ok g c = λ v rest fit is.
    let unit_state = c.in_ok-unit_state.ensures.ok v.unit_state _ fit.unit_state is in
    let hold = c.in_ok-hold.ensures.ok (v.unit, v.outputs) _ fit.hold (sym unit_state.1) in
    let known = c.in_ok-known.ensures.ok v.known _ fit.known (sym hold.1) in
    let first_put = c.in_ok-first_put.ensures.ok v.first_put _ tt (sym known.1) in (
      (λ i. record {
        unit_state = unit_state.0 i;
        unit = (hold.0 i).0;
        outputs = (hold.0 i).1;
        known = known.0 i;
        first_put = first_put.0 i;
      }) ∙ sym c.of.ensures,
      first_put.1,
    )

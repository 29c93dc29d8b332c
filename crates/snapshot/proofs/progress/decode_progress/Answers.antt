use Rattle.std.proofs.Common.{◌≡◌, sym}
use Rattle.codec.specs.Codes.{Unless}
use Rattle.codec.specs.declared.fault.DecodeFault.TheVariants.{NoMemory}
use Rattle.snapshot.specs.Parts.{FitsProgress, progress_code}
use Rattle.snapshot.proofs.Faults.{failed}
use Rattle.snapshot.proofs.progress.decode_progress.Goals as goal

pub returns-in_err-state-clause-err : goal.returns-in_err-state-clause-err
returns-in_err-state-clause-err g c = failed c.from_residual.result c.in_err-state.field-0.0
    (λ e. Unless (progress_code g.H.Portable.state_code) (FitsProgress g.H.Portable.state_fits) c.args.input.now (e
    ≡ NoMemory)) c.from_residual.ensures.1
    (λ v rest fit is. c.in_err-state.ensures.err v.state _ fit.0 is)

pub returns-in_err-sessions-clause-err : goal.returns-in_err-sessions-clause-err
returns-in_err-sessions-clause-err g c = failed c.from_residual-in_err-sessions.result c.in_err-sessions.field-0.0
    (λ e. Unless (progress_code g.H.Portable.state_code) (FitsProgress g.H.Portable.state_fits) c.args.input.now (e
    ≡ NoMemory)) c.from_residual-in_err-sessions.ensures.1
    (λ v rest fit is.
    let state = c.in_ok-state.ensures.ok v.state _ fit.0 is in
    c.in_err-sessions.ensures.err v.sessions _ fit.1 (sym state.1))

pub returns-clause-ok : goal.returns-clause-ok
returns-clause-ok g c = λ v rest fit is.
    let state = c.in_ok-state.ensures.ok v.state _ fit.0 is in
    let sessions = c.in_ok-sessions.ensures.ok v.sessions rest fit.1 (sym state.1) in
    (λ i. record { state = state.0 i; sessions = sessions.0 i }, sessions.1)

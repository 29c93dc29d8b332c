use Rattle.std.proofs.Common.{◌≡◌, ◌∙◌, sym, subst, length}
use Rattle.std.proofs.lemmas.Bool.{false≢true}
use Rattle.checkpoint.specs.Shelves.{Rises}
use Rattle.codec.specs.Codes.{Unless}
use Rattle.codec.specs.declared.fault.DecodeFault.TheVariants.{NoMemory}
use Rattle.snapshot.specs.Parts.{FitsShelf, shelf_code}
use Rattle.snapshot.proofs.Faults.{failed}
use Rattle.snapshot.proofs.progress.decode_shelf.Goals as goal

pub returns-in_err-base-clause-err : goal.returns-in_err-base-clause-err
returns-in_err-base-clause-err g c = failed c.from_residual.result c.in_err-base.field-0.0
    (λ e. Unless (shelf_code g.H.Portable.state_code) (FitsShelf g.H.Portable.state_fits) c.args.input.now (e
    ≡ NoMemory)) c.from_residual.ensures.1
    (λ v rest fit is. c.in_err-base.ensures.err v.base _ fit.0 is)

pub returns-in_err-count-clause-err : goal.returns-in_err-count-clause-err
returns-in_err-count-clause-err g c = failed c.from_residual-in_err-count.result c.in_err-count.field-0.0
    (λ e. Unless (shelf_code g.H.Portable.state_code) (FitsShelf g.H.Portable.state_fits) c.args.input.now (e
    ≡ NoMemory)) c.from_residual-in_err-count.ensures.1
    (λ v rest fit is.
    let base = c.in_ok-base.ensures.ok v.base _ fit.0 is in
    c.in_err-count.ensures.err (length v.others) _ fit.1.1 (sym base.1))

pub returns-in_err-others-clause-err : goal.returns-in_err-others-clause-err
returns-in_err-others-clause-err g c = failed c.from_residual-in_err-others.result c.in_err-others.field-0.0
    (λ e. Unless (shelf_code g.H.Portable.state_code) (FitsShelf g.H.Portable.state_fits) c.args.input.now (e
    ≡ NoMemory)) c.from_residual-in_err-others.ensures.1
    (λ v rest fit is.
    let base = c.in_ok-base.ensures.ok v.base _ fit.0 is in
    let count = c.in_ok-count.ensures.ok (length v.others) _ fit.1.1 (sym base.1) in
    c.in_err-others.ensures.err v.others rest count.0 fit.1.0 (sym count.1))

pub returns-in-Some-clause-ok : goal.returns-in-Some-clause-ok
returns-in-Some-clause-ok g c = λ v rest fit is.
    let base = c.in_ok-base.ensures.ok v.base _ fit.0 is in
    let count = c.in_ok-count.ensures.ok (length v.others) _ fit.1.1 (sym base.1) in
    let others = c.in_ok-others.ensures.ok v.others rest count.0 fit.1.0 (sym count.1) in
    ((λ i. record { base = base.0 i; others = others.0 i }) ∙ sym c.in-Some.ensures.made, others.1)

pub returns-in-None-clause-err : goal.returns-in-None-clause-err
returns-in-None-clause-err g c = λ v rest fit is.
    let base = c.in_ok-base.ensures.ok v.base _ fit.0 is in
    let count = c.in_ok-count.ensures.ok (length v.others) _ fit.1.1 (sym base.1) in
    let others = c.in_ok-others.ensures.ok v.others rest count.0 fit.1.0 (sym count.1) in
    absurd (false≢true (c.in-None.ensures.rises
    (subst (λ xs. Rises c.in_ok-base.base xs) others.0 (subst (λ b. Rises b v.others) base.0 fit.2))))

use Rattle.std.proofs.Common.{◌∙◌, sym, subst}
use Rattle.std.proofs.lemmas.Bool.{false≢true}
use Rattle.rollback.specs.Units.{IsKept}
use Rattle.snapshot.proofs.unit.decode_unit.Goals as goal

pub returns-in-Some-clause-ok : goal.returns-in-Some-clause-ok
returns-in-Some-clause-ok g c = λ v rest fit is.
    let parts = c.in_ok-parts.ensures.ok v rest fit is in (parts.0 ∙ sym c.in-Some.ensures.made, parts.1)

pub returns-in-None-clause-err : goal.returns-in-None-clause-err
returns-in-None-clause-err g c = λ v rest fit is.
    let parts = c.in_ok-parts.ensures.ok v rest fit is in
    absurd (false≢true (c.in-None.ensures.whole (subst IsKept parts.0 fit.kept)))

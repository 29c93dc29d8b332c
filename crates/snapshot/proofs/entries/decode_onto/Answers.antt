use Rattle.std.proofs.Common.{◌≡◌, ◌++◌, ◌∷◌, [], ◌∙◌, sym, subst, bytes_eq, List, ℕ, None}
use Rattle.codec.specs.Codes.{Unless}
use Rattle.codec.specs.declared.fault.DecodeFault.TheVariants.{NoMemory}
use Rattle.indexmap.specs.IndexMap.{get}
use Rattle.snapshot.specs.Hosts.{FitsEntry, entry_code}
use Rattle.snapshot.proofs.Faults.{failed}
use Rattle.snapshot.proofs.entries.decode_onto.Goals as goal

pub returns-clause-ok : goal.returns-clause-ok
returns-clause-ok g c = λ v rest fit is.
    let name = c.in_ok-name.ensures.ok v.0 _ fit.0 is in
    let tenant = c.in_ok-tenant.ensures.ok v.1 rest fit.1 (sym name.1) in
    (c.in_ok-put_new.ensures.ok ∙ (λ i. c.args.tenants.now.entries ++ (sym name.0 i, sym tenant.0 i) ∷ []), tenant.1)

pub returns-in_err-name-clause-err : goal.returns-in_err-name-clause-err
returns-in_err-name-clause-err g c = failed c.from_residual.result c.in_err-name.field-0.0
    (λ e. Unless (entry_code g.H.Portable.state_code) (λ v. FitsEntry g.H.Portable.state_fits v
    × (get bytes_eq c.args.tenants.now v.0 ≡ None)) c.args.input.now (e ≡ NoMemory))
    c.from_residual.ensures.1
    (λ v rest fit is. c.in_err-name.ensures.err v.0 _ fit.0.0 is)

pub returns-in_err-tenant-clause-err : goal.returns-in_err-tenant-clause-err
returns-in_err-tenant-clause-err g c = failed c.from_residual-in_err-tenant.result c.in_err-tenant.field-0.0
    (λ e. Unless (entry_code g.H.Portable.state_code) (λ v. FitsEntry g.H.Portable.state_fits v
    × (get bytes_eq c.args.tenants.now v.0 ≡ None)) c.args.input.now (e ≡ NoMemory))
    c.from_residual-in_err-tenant.ensures.1
    (λ v rest fit is.
    let name = c.in_ok-name.ensures.ok v.0 _ fit.0.0 is in
    c.in_err-tenant.ensures.err v.1 rest fit.0.1 (sym name.1))

pub returns-in_err-put_new-clause-err : goal.returns-in_err-put_new-clause-err
returns-in_err-put_new-clause-err g c = failed c.from_residual-in_err-put_new.result c.in_err-put_new.field-0.0
    (λ e. Unless (entry_code g.H.Portable.state_code) (λ v. FitsEntry g.H.Portable.state_fits v
    × (get bytes_eq c.args.tenants.now v.0 ≡ None)) c.args.input.now (e ≡ NoMemory))
    c.from_residual-in_err-put_new.ensures.1
    (λ v rest fit is.
    let name = c.in_ok-name.ensures.ok v.0 _ fit.0.0 is in
    c.in_err-put_new.ensures.err (subst (λ (n : List ℕ). get bytes_eq c.args.tenants.now n ≡ None) name.0 fit.1))

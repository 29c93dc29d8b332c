use Rattle.std.proofs.Common.{bytes_eq, None, ◌≡◌, ◌++◌, ◌∷◌, [], ◌∙◌, ap, sym, subst, List, ℕ, drop, ◌+◌, length}
use Rattle.std.proofs.Common.{arith}
use Rattle.std.specs.List.{IsDistinct}
use Rattle.std.specs.Map.{keys_of, lookup}
use Rattle.tenant.specs.Kept.{TenantState}
use Rattle.codec.specs.Codes.{AllFit, Unless, each_code}
use Rattle.codec.specs.declared.fault.DecodeFault.TheVariants.{NoMemory}
use Rattle.snapshot.specs.Hosts.{FitsEntry, entry_code}
use Rattle.codec.proofs.Each.{there, from_start}
use Rattle.snapshot.proofs.Names.{new_name}
use Rattle.snapshot.proofs.Faults.{failed}
use Rattle.snapshot.proofs.entries.decode_all_onto.Goals as goal

pub loop-preserved : goal.loop-preserved
loop-preserved g c = λ vs rest len fit is.
    let before = c.loop.invariant vs rest len fit is in
    let x = there vs c.loop.counter (let a = c.loop-test.true in omega (arith, a, len)) in
    let fits = subst (AllFit (FitsEntry g.H.Portable.state_fits)) x.1 before.2 in
    let read = c.in_ok-decode_onto.ensures.ok x.0
    (each_code (entry_code g.H.Portable.state_code) (drop (c.loop.counter + 1) vs) rest) fits.0
    (before.1 ∙ ap (λ xs. each_code (entry_code g.H.Portable.state_code) xs rest) x.1) in
    (read.0 ∙ ap (λ xs. xs ++ x.0 ∷ []) before.0 ∙ sym x.2, sym read.1, fits.1)

pub returns-clause-ok : goal.returns-clause-ok
returns-clause-ok g c = λ vs rest len fit is.
    let before = c.loop.invariant vs rest len fit is in
    let all = from_start vs c.loop.counter (let a = c.loop-test.false in omega (arith, a, len)) in (
      sym (before.0 ∙ all.0),
      sym (before.1 ∙ ap (λ xs. each_code (entry_code g.H.Portable.state_code) xs rest) all.1),
    )

pub returns-in_err-decode_onto-clause-err : goal.returns-in_err-decode_onto-clause-err
returns-in_err-decode_onto-clause-err g c =
    failed c.from_residual.result c.in_err-decode_onto.field-0.0
    (λ e. Unless (each_code (entry_code g.H.Portable.state_code)) (λ vs. (length vs ≡ c.args.count)
    × AllFit (FitsEntry g.H.Portable.state_fits) vs × IsDistinct bytes_eq (keys_of vs)) c.args.input.now
    (e ≡ NoMemory)) c.from_residual.ensures.1
    (λ vs rest fit is.
    let len = fit.0 in
    let before = c.loop.invariant vs rest fit.0 fit.1 is in
    let x = there vs c.loop.counter (let a = c.loop-test.true in omega (arith, a, len)) in
    let fits = subst (AllFit (FitsEntry g.H.Portable.state_fits)) x.1 before.2 in
    let new = subst (λ (es : List (List ℕ × TenantState _)). lookup (bytes_eq x.0.0) es ≡ None) (sym before.0)
    (new_name vs (drop (c.loop.counter + 1) vs) c.loop.counter x.0 x.1 fit.2) in
    c.in_err-decode_onto.ensures.err x.0
    (each_code (entry_code g.H.Portable.state_code) (drop (c.loop.counter + 1) vs) rest) (fits.0, new)
    (before.1 ∙ ap (λ xs. each_code (entry_code g.H.Portable.state_code) xs rest) x.1))

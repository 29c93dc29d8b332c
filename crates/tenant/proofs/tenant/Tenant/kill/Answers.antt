use Rattle.std.proofs.Common.{◌≡◌, length}
use Rattle.std.proofs.lemmas.Option.{slice_get_within}
use Rattle.tenant.specs.Kept.{Member}
use Rattle.tenant.proofs.Killing.{kill_done, kill_refused}
use Rattle.std.proofs.Common.{ap, refl}
use Rattle.tenant.specs.Kept.{TenantState, killed_member}
use Rattle.tenant.proofs.PastKept.{no_letters, one_same}
use Rattle.tenant.proofs.tenant.Tenant.kill.Goals as goal

pub returns-in-Err-clause-done : goal.returns-in-Err-clause-done
returns-in-Err-clause-done g c = λ name live w log s. rw c.refused.ensures.reply (kill_refused
    g.H.Handler.meaning name live c.args.self.now w log s c.args.unit c.in-Err.refusal c.in-Err.ensures.refused)

pub kill_at-lost-requires-after_bounds : goal.kill_at-lost-requires-after_bounds
kill_at-lost-requires-after_bounds g c κs within =
    slice_get_within c.args.self.now.members c.args.unit _ c.in-Ok.ensures.found

pub returns-clause-done : goal.returns-clause-done
returns-clause-done g c = λ name live w log s.
    let m : Member _ = c.in-Ok.field-0.now in
    let lost : c.kill_at-lost.result ≡ length m.unit_state.volatile =
    c.kill_at-lost.ensures.lost m c.in-Ok.ensures.found in
    let new = c.kill_at-lost.ensures.tenant m c.in-Ok.ensures.found in
    rw (c.quiet.ensures.reply, lost, new) (kill_done
    g.H.Handler.meaning name live c.args.self.now w log s c.args.unit m c.in-Ok.ensures.found c.in-Ok.ensures.up)

pub returns-clause-shelves : goal.returns-clause-shelves
returns-clause-shelves g c =
    let m : Member g.row.H-State.Denot = c.in-Ok.field-0.now in
    let found = c.in-Ok.ensures.found in
    let t : TenantState g.row.H-State.Denot = c.args.self.now in
    let v : TenantState g.row.H-State.Denot = c.kill_at-lost.new.self in
    let new = c.kill_at-lost.ensures.tenant m found in
    one_same t c.args.unit m found (killed_member m) v (ap (λ (z : TenantState g.row.H-State.Denot). z.members) new)
    refl (no_letters t v (ap (λ (z : TenantState g.row.H-State.Denot). z.letters) new))

use Rattle.std.proofs.Common.{◌∙◌}
use Rattle.std.proofs.lemmas.Option.{slice_get_within}
use Rattle.tenant.proofs.Outgoing.{release_done, release_refused}
use Rattle.std.proofs.Common.{ap, refl}
use Rattle.tenant.specs.Kept.{TenantState, Member, released_member}
use Rattle.tenant.specs.Stands.{live_in}
use Rattle.tenant.proofs.Follow.{keeps}
use Rattle.tenant.proofs.PastKept.{no_letters, none_changed, one_same}
use Rattle.tenant.proofs.Standing.{opened}
use Rattle.tenant.proofs.tenant.Tenant.release.Goals as goal

pub returns-in-Err-clause-done : goal.returns-in-Err-clause-done
returns-in-Err-clause-done g c = λ name live w log s. rw c.refused.ensures.reply (release_refused
    g.H.Handler.meaning name live c.args.self.now w log s c.args.unit c.in-Err.refusal c.in-Err.ensures.refused)

pub firm_texts-requires-after_bounds : goal.firm_texts-requires-after_bounds
firm_texts-requires-after_bounds g c κs within =
    slice_get_within c.args.self.now.members c.args.unit _ c.in-Ok.ensures.found

pub release_at-requires-after_bounds : goal.release_at-requires-after_bounds
release_at-requires-after_bounds g c κs within =
    slice_get_within c.args.self.now.members c.args.unit _ c.in-Ok.ensures.found

pub returns-clause-done : goal.returns-clause-done
returns-clause-done g c = λ name live w log s. rw (c.in_ok-answer.ensures.0)
    (release_done g.H.Handler.meaning name live c.args.self.now
    w log s c.args.unit c.in-Ok.field-0.now c.in-Ok.ensures.found c.in-Ok.ensures.up c.release_at.new.self _
    (λ frontier texts own front was.
    c.in_ok-release_at.ensures.ok c.in-Ok.field-0.now frontier texts c.in-Ok.ensures.found own front was)
    (λ frontier there. c.in_ok-outputs.ensures
    ∙ c.in_ok-firm_texts.ensures c.in-Ok.field-0.now frontier c.in-Ok.ensures.found there))

pub returns-in-Err-clause-shelves : goal.returns-in-Err-clause-shelves
returns-in-Err-clause-shelves g c = λ name w records s. none_changed c.args.self.now c.args.self.now refl

pub returns-clause-shelves : goal.returns-clause-shelves
returns-clause-shelves g c = λ name w records s.
    let m : Member g.row.H-State.Denot = c.in-Ok.field-0.now in
    let found = c.in-Ok.ensures.found in
    let t : TenantState g.row.H-State.Denot = c.args.self.now in
    let v : TenantState g.row.H-State.Denot = c.release_at.new.self in
    let x = keeps t (live_in name records) (opened s).stands.0 (opened s).stands.1 c.args.unit m found in
    let new =
    c.in_ok-release_at.ensures.ok m x.unit.frontier x.is.released.1 found x.is.own x.is.frontier x.is.released.3 in
    one_same t c.args.unit m found (released_member m x.unit.frontier) v
    (ap (λ (z : TenantState g.row.H-State.Denot). z.members) new) refl
    (no_letters t v (ap (λ (z : TenantState g.row.H-State.Denot). z.letters) new))

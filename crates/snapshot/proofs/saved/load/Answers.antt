use Rattle.std.proofs.Common.{◌≡◌, refl, ◌∙◌, ap, sym, subst, List, ℕ, [], length, ◌⊎◌, inl, inr}
use Rattle.std.specs.Prelude.{◌≢◌}
use Rattle.tenant.specs.Kept.{TenantState}
use Rattle.book.specs.Standing.{HostReplays, Hosted}
use Rattle.snapshot.specs.declared.load_fault.LoadFault.{LoadFault}
use Rattle.snapshot.specs.declared.load_fault.LoadFault.TheVariants.{AnotherHandler, NoMemory}
use Rattle.snapshot.specs.Faults.{RefusesName, of_part}
use Rattle.snapshot.specs.Hosts.{IsSaved}
use Rattle.snapshot.proofs.Faults.{failed}
use Rattle.snapshot.proofs.Whole.{opened, rest_of}
use Rattle.snapshot.proofs.saved.load.Goals as goal

pub returns-clause-same : goal.returns-clause-same
returns-clause-same g c = λ saved is.
    let body = is.is_body in
    let all = opened g.H.Portable.state_code g.H.Portable.state_fits c.args.about.now saved c.args.bytes.now is in
    let start = c.in_ok-unsealed.ensures.ok _ c.args.about.now (rest_of g.H.Portable.state_code saved body.pairs)
    all.digest body.about (c.new-input.ensures ∙ all.bytes) in
    let tenants = c.in_ok-tenants.ensures.ok saved.entries _ body.entries (sym start) in
    let log = c.in_ok-log.ensures.records saved.log.records body.pairs [] body.written (sym tenants.1) in
    (λ i. record {
      entries = tenants.0 i;
      log = record { records = log.0 i; failures = (body.failures ∙ sym c.in_ok-log.ensures.failures) i };
    }) ∙ sym c.of.ensures

pub returns-clause-replays : goal.returns-clause-replays
returns-clause-replays g c = λ saved is history.
    subst (λ (h : Hosted (TenantState _)). HostReplays g.H.Handler.meaning h history)
    (returns-clause-same g c saved is)

pub returns-clause-other : goal.returns-clause-other
returns-clause-other g c = λ saved named is.
    let all = opened g.H.Portable.state_code g.H.Portable.state_fits named saved c.args.bytes.now is in
    c.in_ok-unsealed.ensures.named _ named (rest_of g.H.Portable.state_code saved is.is_body.pairs)
    all.digest is.is_body.about (c.new-input.ensures ∙ all.bytes)

-- ---- where it refuses

-- the name that is asked for is not refused but for want of memory
own_name : (about : List ℕ) (fault : LoadFault) → RefusesName about about fault → fault ≡ NoMemory
own_name about fault (inl h) = h
own_name about fault (inr h) = absurd (h.1 refl)

other_name : (about named : List ℕ) (fault : LoadFault) → RefusesName about named fault
    → (fault ≡ AnotherHandler) ⊎ (fault ≡ NoMemory)
other_name about named fault (inl h) = inr h
other_name about named fault (inr h) = inl h.0

pub returns-in_err-unsealed-clause-err : goal.returns-in_err-unsealed-clause-err
returns-in_err-unsealed-clause-err g c = failed c.from_residual.result c.in_err-unsealed.field-0.0
    (λ e. (saved : Hosted (TenantState _)) → IsSaved g.H.Portable.state_code g.H.Portable.state_fits c.args.about.now
    saved c.args.bytes.now → e ≡ NoMemory) c.from_residual.ensures.1
    (λ saved is.
    let about = c.args.about.now in
    let all = opened g.H.Portable.state_code g.H.Portable.state_fits about saved c.args.bytes.now is in
    own_name about c.in_err-unsealed.field-0.0 (c.in_err-unsealed.ensures.err about
    (rest_of g.H.Portable.state_code saved is.is_body.pairs) is.is_body.about all.digest
    (c.new-input.ensures ∙ all.bytes)))

pub returns-in_err-unsealed-clause-refused : goal.returns-in_err-unsealed-clause-refused
returns-in_err-unsealed-clause-refused g c = failed c.from_residual.result c.in_err-unsealed.field-0.0
    (λ e. (saved : Hosted (TenantState _)) (named : List ℕ) → IsSaved g.H.Portable.state_code g.H.Portable.state_fits
    named saved c.args.bytes.now → named ≢ c.args.about.now → (e ≡ AnotherHandler) ⊎ (e ≡ NoMemory))
    c.from_residual.ensures.1
    (λ saved named is differ.
    let all = opened g.H.Portable.state_code g.H.Portable.state_fits named saved c.args.bytes.now is in
    other_name c.args.about.now named c.in_err-unsealed.field-0.0 (c.in_err-unsealed.ensures.err named
    (rest_of g.H.Portable.state_code saved is.is_body.pairs) is.is_body.about all.digest
    (c.new-input.ensures ∙ all.bytes)))

pub returns-in_err-tenants-clause-err : goal.returns-in_err-tenants-clause-err
returns-in_err-tenants-clause-err g c =
    failed c.from_residual-in_err-tenants.result (of_part c.in_err-tenants.field-0.0)
    (λ e. (saved : Hosted (TenantState _)) → IsSaved g.H.Portable.state_code g.H.Portable.state_fits c.args.about.now
    saved c.args.bytes.now → e ≡ NoMemory) c.from_residual-in_err-tenants.ensures.1
    (λ saved is.
    let all = opened g.H.Portable.state_code g.H.Portable.state_fits c.args.about.now saved c.args.bytes.now is in
    let start = c.in_ok-unsealed.ensures.ok _ c.args.about.now
    (rest_of g.H.Portable.state_code saved is.is_body.pairs) all.digest is.is_body.about
    (c.new-input.ensures ∙ all.bytes) in
    ap of_part (c.in_err-tenants.ensures.err saved.entries _ is.is_body.entries (sym start)))

pub returns-in_err-tenants-clause-refused : goal.returns-in_err-tenants-clause-refused
returns-in_err-tenants-clause-refused g c =
    failed c.from_residual-in_err-tenants.result (of_part c.in_err-tenants.field-0.0)
    (λ e. (saved : Hosted (TenantState _)) (named : List ℕ) → IsSaved g.H.Portable.state_code g.H.Portable.state_fits
    named saved c.args.bytes.now → named ≢ c.args.about.now → (e ≡ AnotherHandler) ⊎ (e ≡ NoMemory))
    c.from_residual-in_err-tenants.ensures.1
    (λ saved named is differ.
    let all = opened g.H.Portable.state_code g.H.Portable.state_fits named saved c.args.bytes.now is in
    absurd (differ (c.in_ok-unsealed.ensures.named _ named (rest_of g.H.Portable.state_code saved is.is_body.pairs)
    all.digest is.is_body.about (c.new-input.ensures ∙ all.bytes))))

pub returns-in_err-log-clause-err : goal.returns-in_err-log-clause-err
returns-in_err-log-clause-err g c =
    failed c.from_residual-in_err-log.result (of_part c.in_err-log.field-0.0)
    (λ e. (saved : Hosted (TenantState _)) → IsSaved g.H.Portable.state_code g.H.Portable.state_fits c.args.about.now
    saved c.args.bytes.now → e ≡ NoMemory) c.from_residual-in_err-log.ensures.1
    (λ saved is.
    let body = is.is_body in
    let all = opened g.H.Portable.state_code g.H.Portable.state_fits c.args.about.now saved c.args.bytes.now is in
    let start = c.in_ok-unsealed.ensures.ok _ c.args.about.now (rest_of g.H.Portable.state_code saved body.pairs)
    all.digest body.about (c.new-input.ensures ∙ all.bytes) in
    let tenants = c.in_ok-tenants.ensures.ok saved.entries _ body.entries (sym start) in
    ap of_part (c.in_err-log.ensures.err saved.log.records body.pairs [] body.written (sym tenants.1)))

pub returns-in_err-log-clause-refused : goal.returns-in_err-log-clause-refused
returns-in_err-log-clause-refused g c =
    failed c.from_residual-in_err-log.result (of_part c.in_err-log.field-0.0)
    (λ e. (saved : Hosted (TenantState _)) (named : List ℕ) → IsSaved g.H.Portable.state_code g.H.Portable.state_fits
    named saved c.args.bytes.now → named ≢ c.args.about.now → (e ≡ AnotherHandler) ⊎ (e ≡ NoMemory))
    c.from_residual-in_err-log.ensures.1
    (λ saved named is differ.
    let all = opened g.H.Portable.state_code g.H.Portable.state_fits named saved c.args.bytes.now is in
    absurd (differ (c.in_ok-unsealed.ensures.named _ named (rest_of g.H.Portable.state_code saved is.is_body.pairs)
    all.digest is.is_body.about (c.new-input.ensures ∙ all.bytes))))

pub returns-then-len-ne0-clause-err : goal.returns-then-len-ne0-clause-err
returns-then-len-ne0-clause-err g c = λ saved is.
    let body = is.is_body in
    let all = opened g.H.Portable.state_code g.H.Portable.state_fits c.args.about.now saved c.args.bytes.now is in
    let start = c.in_ok-unsealed.ensures.ok _ c.args.about.now (rest_of g.H.Portable.state_code saved body.pairs)
    all.digest body.about (c.new-input.ensures ∙ all.bytes) in
    let tenants = c.in_ok-tenants.ensures.ok saved.entries _ body.entries (sym start) in
    let log = c.in_ok-log.ensures.records saved.log.records body.pairs [] body.written (sym tenants.1) in
    absurd (c.if-len-ne0.true (c.len.ensures ∙ ap (λ (xs : List ℕ). length xs) (sym log.1)))

pub returns-then-len-ne0-clause-refused : goal.returns-then-len-ne0-clause-refused
returns-then-len-ne0-clause-refused g c = λ saved named is differ.
    let all = opened g.H.Portable.state_code g.H.Portable.state_fits named saved c.args.bytes.now is in
    absurd (differ (c.in_ok-unsealed.ensures.named _ named (rest_of g.H.Portable.state_code saved is.is_body.pairs)
    all.digest is.is_body.about (c.new-input.ensures ∙ all.bytes)))

use Rattle.std.proofs.Common.{◌≡◌, refl, ◌∙◌, ap, drop, sym, subst, ℕ, ◌+◌, arith}
use Rattle.std.specs.Prelude.{IfSome, Option, Some, slice_get}
use Rattle.model.specs.declared.records.Record.{Record}
use Rattle.shared_log.specs.Logged.{places_of}
use Rattle.tenant.specs.Kept.{AreFetched}
use Rattle.tenant.proofs.Fetching.{dropped_at, fetched_end, fetched_one}
use Rattle.tenant.proofs.returning.fetch_some.Goals as goal

pub loop-position-preserved : goal.loop-position-preserved
loop-position-preserved g c =
    let log = c.args.log.now in
    let l = c.loop-position in
    let found : (p : ℕ)
    × (slice_get (places_of c.args.tenant.now c.args.unit l.log) (c.args.skipped + l.position) ≡ Some p)
    × (slice_get l.log.records p ≡ Some (Some c.in-Some.record)) =
    subst (λ (o : Option Record). IfSome o (λ r. (p : ℕ)
    × (slice_get (places_of c.args.tenant.now c.args.unit l.log) (c.args.skipped + l.position) ≡ Some p)
    × (slice_get l.log.records p ≡ Some (Some r)))) c.in-Some.is c.in_ok-record.ensures.some in
    record {
      records = c.fetch_at.ensures.records ∙ l.invariant.records;
      places = c.fetch_at.ensures.places ∙ l.invariant.places;
      from = let a = l.invariant.from in omega (arith, a);
      empty = λ none. let a = l.invariant.from in let b = c.loop-position-test.true in omega (arith, a, b, none);
      fetched = subst (λ rs. AreFetched log.records (drop c.args.skipped (places_of c.args.tenant.now c.args.unit log))
          c.args.first (l.position + 1) rs) (sym c.in_ok-add-in-Some.ensures)
          (fetched_one log.records (drop c.args.skipped (places_of c.args.tenant.now c.args.unit log))
          c.args.first l.position l.invariant.from l.fetched.items l.invariant.fetched c.in-Some.record (
            found.0,
            dropped_at
                (places_of c.args.tenant.now c.args.unit log) c.args.skipped l.position (c.args.skipped + l.position)
                found.0 refl (ap (λ ps. slice_get ps (c.args.skipped + l.position)) (sym l.invariant.places) ∙ found.1),
            ap (λ rs. slice_get rs found.0) (sym l.invariant.records) ∙ found.2,
          ));
      up = let a = l.invariant.up in let b = c.fetch_at.ensures.up in omega (arith, a, b);
      steady = c.in_ok-record.ensures.steady (λ e. absurd (cc e)) ∙ l.invariant.steady;
    }

pub returns-clause-fetched : goal.returns-clause-fetched
returns-clause-fetched g c =
    let l = c.loop-position in
    fetched_end c.args.log.now.records (drop c.args.skipped (places_of c.args.tenant.now c.args.unit c.args.log.now))
    c.args.first l.position l.invariant.from
    l.fetched.items l.invariant.fetched c.args.last c.loop-position-test.false l.auto.position-end l.invariant.empty

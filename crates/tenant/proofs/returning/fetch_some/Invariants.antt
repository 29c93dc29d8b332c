use Rattle.std.proofs.Common.{◌≡◌, ◌≤◌, drop}
use Rattle.shared_log.specs.Logged.{places_of}
use Rattle.tenant.specs.Kept.{AreFetched}
use Rattle.tenant.proofs.returning.fetch_some.Given as goal

-- the records up to here were fetched
abbrev pub invariant-loop-position : goal.invariant-loop-position
invariant-loop-position g l = record {
  records : l.log.records ≡ l.fn.log.records;
  places : places_of l.tenant l.unit l.log ≡ places_of l.tenant l.unit l.fn.log;
  from : l.first ≤ l.position;
  empty : l.last ≤ l.first → l.position ≤ l.first;
  fetched : AreFetched l.fn.log.records
      (drop l.skipped (places_of l.tenant l.unit l.fn.log)) l.first l.position l.fetched.items;
  up : l.fn.log.failures ≤ l.log.failures;
  steady : l.log.failures ≡ l.fn.log.failures;
}

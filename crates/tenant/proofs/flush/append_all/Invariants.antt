use Rattle.std.proofs.Common.{◌≡◌, ◌<◌, ◌≤◌, ◌++◌, ℕ, map, take, true}
use Rattle.std.specs.Prelude.{Some, slice_get, bytes_eq}
use Rattle.model.specs.declared.records.Record.{Record}
use Rattle.tenant.proofs.flush.append_all.Given as goal

-- the records up to here were logged
abbrev pub invariant-loop-i : goal.invariant-loop-i
invariant-loop-i g l = record {
  records : l.log.records ≡ l.fn.log.records ++ map Some (take l.i l.unit_state.volatile);
  own : (k : ℕ) (r : Record) → k < l.i → slice_get l.unit_state.volatile k ≡ Some r → bytes_eq r.tenant l.tenant ≡ true;
  up : l.fn.log.failures ≤ l.log.failures;
  steady : l.log.failures ≡ l.fn.log.failures;
}

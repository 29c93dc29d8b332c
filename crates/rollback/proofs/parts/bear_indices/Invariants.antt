use Rattle.std.proofs.Common.{◌≡◌, ◌+◌, ◌<◌, ℕ, slice_get}
use Rattle.std.specs.Prelude.{Some}
use Rattle.model.specs.declared.records.Record.{Record}
use Rattle.rollback.proofs.parts.bear_indices.Given as goal

-- the records before this one bear their indices
abbrev pub invariant-loop-place : goal.invariant-loop-place
invariant-loop-place l = record {
  index : l.index ≡ l.from + l.place;
  before : (i : ℕ) (r : Record) → i < l.place → slice_get l.volatile.records i ≡ Some r → r.mark.index ≡ l.from + i;
}

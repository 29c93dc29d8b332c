use Rattle.std.proofs.Common.{◌≡◌, ◌≢◌, ◌≤◌, ◌+◌, ℕ, length, slice_index}
use Rattle.output_commit.specs.Holds.{gone_of as count_of, room_of, line_texts}
use Rattle.tenant.specs.Kept.{AreMoved}
use Rattle.tenant.proofs.releasing.release_all.Given as goal

abbrev pub invariant-loop : goal.invariant-loop
invariant-loop l = record {
  unit : l.hold.unit ≡ l.fn.hold.unit;
  moved : AreMoved (slice_index l.frontiers l.fn.hold.unit)
      l.fn.hold.outputs (line_texts l.fn.outlet l.fn.hold.unit) l.hold.outputs (line_texts l.outlet l.fn.hold.unit);
  others : (u : ℕ) → u ≢ l.fn.hold.unit → line_texts l.outlet u ≡ line_texts l.fn.outlet u;
  gone : (u : ℕ) → count_of l.outlet u ≡ count_of l.fn.outlet u;
  len : length l.outlet ≡ length l.fn.outlet;
  room : length l.hold.outputs ≤ room_of l.outlet l.fn.hold.unit;
  fewer : length l.hold.outputs + l.counter ≡ l.end;
}

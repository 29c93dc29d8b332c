-- Which parts are those of a unit.
use Rattle.std.proofs.Common.{◌≡◌, ◌-◌, ◌<◌, ◌≤◌, ◌^◌, true, length}
use Rattle.std.specs.Prelude.{Some, option_map}
use Rattle.checkpoint.specs.Shelves.{Rises, tops}
use Rattle.checkpoint.proofs.Tops.{is_top_by, top_is}
use Rattle.rollback.specs.Units.{IsKept, IsOutside, Marked, Recovering, places, stable_places}

-- What passes each test is what a unit keeps.
pub whole_is : {S : Type 0} (u : Recovering S) → option_map (λ s. s.index) u.shelf.base ≡ Some u.base
    → Rises u.shelf.base u.shelf.others → length u.volatile < length u.intervals → places u ≤ 2 ^ 32
    → tops u.shelf (stable_places u - 1) ≡ true → Marked (stable_places u) u.volatile
    → IsOutside u.base u.outside u.intervals → IsKept u
whole_is u base rises stable few top marks outside = record {
  base = base;
  stable = stable;
  few = few;
  top = top_is u.shelf (stable_places u - 1) top;
  rises = rises;
  marks = marks;
  outside = outside;
}

-- No snapshot of a unit is behind its stable intervals.
pub top_passes : {S : Type 0} (u : Recovering S) → IsKept u → tops u.shelf (stable_places u - 1) ≡ true
top_passes u kept = is_top_by u.shelf (stable_places u - 1) kept.top

use Rattle.std.proofs.Common.{◌≡◌, ◌<◌, ◌++◌, ℕ}
use Rattle.std.specs.Prelude.{All, Contains}
use Rattle.shared_log.specs.Logged.{IsHeld, places_of}
use Rattle.snapshot.specs.Logs.{unit_places}
use Rattle.snapshot.proofs.log.add_tenant.Given as goal

abbrev pub invariant-loop-number : goal.invariant-loop-number
invariant-loop-number l = record {
  grown : (place : ℕ) → Contains l.fn.places.items place → Contains l.places.items place;
  met : (unit : ℕ) → unit < l.number → (place : ℕ) → Contains (places_of l.tenant unit l.log) place
      → Contains l.places.items place;
  held : All (IsHeld l.log.records) l.fn.places.items → All (IsHeld l.log.records) l.places.items;
  walk : l.places.items ≡ l.fn.places.items ++ unit_places l.tenant l.number l.log;
}

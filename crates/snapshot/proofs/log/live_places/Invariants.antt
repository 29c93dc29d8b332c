use Rattle.std.proofs.Common.{ℕ, List, take, drop}
use Rattle.std.specs.Prelude.{All, Contains}
use Rattle.shared_log.specs.Filled.{pairs_at}
use Rattle.shared_log.specs.Logged.{IsHeld, places_of}
use Rattle.snapshot.specs.Logs.{LeaveRoom, NoneOf}
use Rattle.snapshot.proofs.log.live_places.Given as goal

abbrev pub invariant-loop-tenant : goal.invariant-loop-tenant
invariant-loop-tenant l = record {
  met : All (λ (t : List ℕ). (unit place : ℕ) → Contains (places_of t unit l.log) place
      → Contains l.places.items place) (take l.tenant-index l.names);
  held : All (IsHeld l.log.records) l.places.items;
  room : LeaveRoom (pairs_at l.log.records l.places.items);
  later : All (λ (name : List ℕ). NoneOf name (pairs_at l.log.records l.places.items)) (drop l.tenant-index l.names);
}

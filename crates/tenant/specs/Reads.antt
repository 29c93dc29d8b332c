-- What is read off a tenant by whoever stands above it.
use Rattle.std.specs.Prelude.{ℕ, List, [], ◌∷◌, map, take}
use Rattle.model.specs.declared.names.Seat.{Seat}
use Rattle.certificate.specs.declared.route.Route.{Route}
use Rattle.compact.specs.Compact.{CompactLetter}
use Rattle.tenant.specs.Kept.{Member}

-- the seats of the units
abbrev pub seats_of : {S : Type 0} → List (Member S) → List Seat
seats_of members = map (λ m. m.unit_state.seat) members

-- how many units a tenant with these seats was opened with
abbrev pub opening_count : List Seat → ℕ
opening_count [] = 0
opening_count (s ∷ seats) = s.home

-- the seats that it was opened with
abbrev pub opening_of : List Seat → List Seat
opening_of seats = take (opening_count seats) seats

-- the route of each letter
abbrev pub routes_by : List CompactLetter → List Route
routes_by letters = map (λ l. record { source = l.source; receiver = l.receiver }) letters

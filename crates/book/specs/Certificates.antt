-- What a book can show of what it released.
use Rattle.std.specs.Prelude.{◌≡◌, ℕ, List, [], Option, Ok, Some, None, slice_get, take}
use mathlib.Core.List.{IsPrefix}
use Rattle.model.specs.FailureFree.{CertificateHolds, Network, Worker, certificate, failure_free, opening_seats}
use Rattle.model.specs.Handler.{Meaning}
use Rattle.model.specs.History.{IsLegal, own, pairs, replies_to}
use Rattle.model.specs.World.{World}
use Rattle.model.specs.declared.moves.Move.{Move}
use Rattle.model.specs.declared.names.Seat.{Seat}
use Rattle.model.specs.declared.replies.Entry.{Entry}
use Rattle.book.specs.History.{released_at, table_at, world_of}

-- the seats of the opening, where there is a world
abbrev pub seats_at : Option World → List Seat
seats_at None = []
seats_at (Some w) = opening_seats w

-- the certificate, where there is a world
abbrev pub certificate_at : Option World → List Move
certificate_at None = []
certificate_at (Some w) = certificate w

-- These moves are the certificate, and it holds: it is a run without failures that fits the world,
-- and whose outputs begin with those released.
abbrev pub CertifiesAt : {S : Type 0} → Meaning S → Option World → List Move → Type 0
CertifiesAt M None moves = moves ≡ []
CertifiesAt M (Some w) moves = (moves ≡ certificate w) × CertificateHolds M w

-- What a unit puts out in the certificate's run begins with these.
abbrev pub BeginsRun : {S : Type 0} → Meaning S → World → ℕ → List (List ℕ) → Type 0
BeginsRun {S} M w unit texts =
    (net : Network S) → failure_free M (opening_seats w) (certificate w) ≡ Ok net
    → (worker : Worker S) × (slice_get net.workers unit ≡ Some worker) × IsPrefix texts worker.outputs

-- None withdrawn or repeated: what a unit had released at any earlier moment of a history is a beginning of what it has
-- released at the end, and of what it puts out in the certificate's run.
abbrev pub StaysReleased : {S : Type 0} → Meaning S → List ℕ → List Entry → Type 0
StaysReleased M tenant history =
    (n : ℕ) (unit : ℕ) (texts : List (List ℕ)) → released_at (world_of M tenant (take n history)) unit ≡ Some texts
    → (w : World) × (world_of M tenant history ≡ Some w)
    × ((later : List (List ℕ)) × (released_at (Some w) unit ≡ Some later) × IsPrefix texts later)
    × BeginsRun M w unit texts

-- what two legal histories that agree on a tenant's pairs have in common
pub record AreOne {S : Type 0} (M : Meaning S) (tenant : List ℕ) (one other : List Entry) : Type 0 where
  pub replies : replies_to tenant one ≡ replies_to tenant other
  pub rollbacks : table_at (world_of M tenant one) ≡ table_at (world_of M tenant other)
  pub released : (unit : ℕ) → released_at (world_of M tenant one) unit ≡ released_at (world_of M tenant other) unit
  pub certified : CertifiesAt M (world_of M tenant one) (certificate_at (world_of M tenant one))
  pub lasting : StaysReleased M tenant one

-- the headline
abbrev pub IsHeadline : {S : Type 0} → Meaning S → Type 0
IsHeadline M =
    (tenant : List ℕ) (one other : List Entry) → IsLegal M one → IsLegal M other
    → own tenant (pairs one) ≡ own tenant (pairs other) → AreOne M tenant one other

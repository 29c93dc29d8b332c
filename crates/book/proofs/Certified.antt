-- The certificate of a tenant's world holds, whatever its entries are.
use Rattle.std.proofs.Common.{◌≡◌, refl, ap, sym, subst, List, ℕ}
use Rattle.std.specs.Prelude.{Option, Some, None}
use Rattle.model.specs.Alone.{Event, alone}
use Rattle.model.specs.Handler.{Meaning}
use Rattle.model.specs.History.{own, pairs}
use Rattle.model.specs.World.{World}
use Rattle.model.specs.declared.moves.Move.{Move}
use Rattle.model.specs.declared.replies.Entry.{Entry}
use Rattle.theory.proofs.Certificate.{certificate_law}
use Rattle.theory.proofs.Courses.{courses_reach}
use Rattle.book.specs.Certificates.{CertifiesAt, IsHeadline, certificate_at}
use Rattle.book.specs.History.{released_at, table_at, world_of}
use Rattle.book.proofs.Lasting.{stays_released}
use Rattle.book.proofs.Replays.{isolated}

-- the certificate of the world after any events of one tenant
certified_after : {S : Type 0} (M : Meaning S) (events : List Event) (w : Option World)
    → (alone M events).world ≡ w → CertifiesAt M w (certificate_at w)
certified_after M events None e = refl
certified_after M events (Some w) e = (refl, certificate_law M w (courses_reach M events w e))

-- the moves that are the certificate certify
pub certified : {S : Type 0} (M : Meaning S) (tenant : List ℕ) (history : List Entry) (moves : List Move)
    → moves ≡ certificate_at (world_of M tenant history) → CertifiesAt M (world_of M tenant history) moves
certified M tenant history moves e =
    subst (CertifiesAt M (world_of M tenant history))
    (sym e) (certified_after M (own tenant (pairs history)) (world_of M tenant history) refl)

-- Legal histories that agree on a tenant's pairs agree on its replies, rollbacks and released texts.
pub headline : {S : Type 0} (M : Meaning S) → IsHeadline M
headline M tenant one other h k same = record {
  replies = (isolated M tenant one other h k same).0;
  rollbacks = ap table_at (isolated M tenant one other h k same).1;
  released = λ unit. ap (λ w. released_at w unit) (isolated M tenant one other h k same).1;
  certified = certified M tenant one _ refl;
  lasting = stays_released M tenant one;
}

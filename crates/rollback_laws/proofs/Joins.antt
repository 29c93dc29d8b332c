-- Beginnings and joins.
use Rattle.std.proofs.Common.{refl, ◌∙◌}
use Rattle.std.proofs.lemmas.Option.{same_Some}
use Rattle.model.specs.Handler.{Meaning}
use Rattle.compact.specs.Compact.{fitted}
use Rattle.compact.specs.Steps.{first_progress}
use Rattle.rollback_laws.specs.Laws.{BeginningsAreSeen, JoinsAreSeen}
use Rattle.rollback_laws.proofs.Lists.{mapped, still_some}

module _ {S : Type 0} (M : Meaning S) where
  -- A recovery unit at its beginning keeps the compact unit at its beginning.
  pub beginnings_are_seen : BeginningsAreSeen M
  beginnings_are_seen width rows seat = record {
    seat = refl;
    up = refl;
    now = λ p e. same_Some (first_progress M width seat) p e;
    stable = refl;
    outside = refl;
    base = refl;
    shelf = refl;
    intervals = refl;
    volatile = refl;
  }

  -- A recovery unit that is widened to more units keeps the compact unit that is fitted to them.
  pub joins_are_seen : JoinsAreSeen M
  joins_are_seen r x s n = record {
    seat = s.seat;
    up = s.up ∙ still_some (fitted n) r.progress;
    now = λ p e. mapped (fitted n) r.progress x.now s.now p e;
    stable = s.stable;
    outside = s.outside;
    base = s.base;
    shelf = s.shelf;
    intervals = s.intervals;
    volatile = s.volatile;
  }

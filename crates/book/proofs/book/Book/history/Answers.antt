use Rattle.book.specs.Standing.{held_by}
use Rattle.book.proofs.Live.{live_after}
use Rattle.book.proofs.book.Book.history.Goals as goal

pub returns-clause-live : goal.returns-clause-live
returns-clause-live g c =
    rw (← c.self.view_is)
    (live_after g.H.Handler.meaning (held_by c.self.inside.host) c.self.inside.history.items c.self.invariant.replay)

use Rattle.std.proofs.Common.{refl}
use Rattle.book.proofs.Standing.{as_well, none_released}
use Rattle.book.proofs.host.Host.give_up_after.Goals as goal

pub returns-in-Some-clause-replay : goal.returns-in-Some-clause-replay
returns-in-Some-clause-replay g c =
    let given = c.give_up.ensures in
    rw (← c.self.view_is) (as_well g.H.Handler.meaning _ _ refl (λ t w s. given.stands t w _ s) given.keeps given.names)

pub returns-in-Some-clause-none : goal.returns-in-Some-clause-none
returns-in-Some-clause-none g c =
    rw (← c.self.view_is, c.in-Some.is) (λ step is but. c.give_up.ensures.none (rw is at but))

pub returns-in_default-clause-none : goal.returns-in_default-clause-none
returns-in_default-clause-none g c = rw (c.in_default.is) (λ step is but. none_released _ c.args.name.now step is but)

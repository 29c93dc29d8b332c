use Rattle.model.specs.Addresses.{addressed}
use Rattle.book.specs.History.{world_of}
use Rattle.book.proofs.Answers.{if_ok}
use Rattle.book.proofs.host.Host.prepare.Goals as goal

pub returns : goal.returns
returns g c = λ history replay.
    let M = g.H.Handler.meaning in
    let name = (addressed c.args.step.now).0 in
    let held = rw (← c.self.view_is) at replay in
    if_ok c.ask.result (λ a is. is (world_of M name history) c.self.inside.log.records (held.stands name)) c.ask.ensures

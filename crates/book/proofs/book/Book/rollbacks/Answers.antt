use Rattle.book.specs.Standing.{held_by}
use Rattle.std.proofs.Common.{◌≡◌, ap, sym}
use Rattle.std.specs.Prelude.{Some}
use Rattle.book.specs.History.{table_at, world_of}
use Rattle.book.proofs.Answers.{of_open}
use Rattle.book.proofs.book.Book.rollbacks.Goals as goal

pub returns-in-Some : goal.returns-in-Some
returns-in-Some g c =
    let M = g.H.Handler.meaning in
    let now = c.self.inside in
    let name = c.args.tenant.now in
    rw (← c.self.view_is) (
    of_open M name c.in-Some.open.now ((held_by now.host).at name) now.host.log.records
    (λ w. table_at w ≡ Some c.rollbacks.result.now)
    (sym c.in-Some.ensures)
    (λ w stands. ap Some (sym (c.rollbacks.ensures name w now.host.log.records stands)))
    (world_of M name now.history.items)
    (c.self.invariant.replay.stands name))

use Rattle.book.specs.Standing.{held_by}
use Rattle.std.proofs.Common.{◌≡◌, sym}
use Rattle.std.specs.Prelude.{IfOk}
use Rattle.book.specs.Certificates.{seats_at}
use Rattle.book.specs.History.{world_of}
use Rattle.book.proofs.Answers.{if_ok, of_open}
use Rattle.book.proofs.book.Book.seats.Goals as goal

pub returns-in-Some : goal.returns-in-Some
returns-in-Some g c =
    let M = g.H.Handler.meaning in
    let now = c.self.inside in
    let name = c.args.tenant.now in
    rw (← c.self.view_is) (
    of_open M name c.in-Some.open.now ((held_by now.host).at name) now.host.log.records
    (λ w. IfOk c.opening_seats.result (λ found. found.items ≡ seats_at w))
    (sym c.in-Some.ensures)
    (λ w stands. if_ok c.opening_seats.result (λ found h. h name w now.host.log.records stands) c.opening_seats.ensures)
    (world_of M name now.history.items)
    (c.self.invariant.replay.stands name))

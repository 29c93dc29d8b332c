use Rattle.book.specs.Standing.{held_by}
use Rattle.std.proofs.Common.{◌≡◌, sym}
use Rattle.std.specs.Prelude.{MatchOption, None, Some}
use Rattle.book.specs.History.{released_at, world_of}
use Rattle.book.proofs.Answers.{of_open}
use Rattle.book.proofs.book.Book.released.Goals as goal

pub returns-in-Some : goal.returns-in-Some
returns-in-Some g c =
    let M = g.H.Handler.meaning in
    let now = c.self.inside in
    let name = c.args.tenant.now in
    rw (← c.self.view_is) (
    of_open M name c.in-Some.open.now ((held_by now.host).at name) now.host.log.records
    (λ w. MatchOption c.released.result
    (released_at w c.args.unit ≡ None) (λ texts. released_at w c.args.unit ≡ Some texts.now))
    (sym c.in-Some.ensures)
    (λ w stands. c.released.ensures
    name w now.host.log.records stands (c.self.invariant.texts name c.in-Some.open.now c.in-Some.ensures))
    (world_of M name now.history.items)
    (c.self.invariant.replay.stands name))

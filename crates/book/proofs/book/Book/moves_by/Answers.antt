use Rattle.std.proofs.Common.{◌≡◌, ◌∙◌, ap, sym}
use Rattle.std.specs.Prelude.{IfOk}
use Rattle.model.specs.Alone.{alone}
use Rattle.model.specs.History.{IsLegal, own, pairs}
use Rattle.book.specs.Certificates.{certificate_at}
use Rattle.book.specs.History.{world_of}
use Rattle.book.specs.Standing.{held_by}
use Rattle.book.proofs.Answers.{if_ok, of_open_known}
use Rattle.book.proofs.book.Book.moves_by.Goals as goal

pub returns-in-Some : goal.returns-in-Some
returns-in-Some g c =
    let M = g.H.Handler.meaning in
    let now = c.self.inside in
    let name = c.args.tenant.now in
    let same : own name (pairs c.args.history.now) ≡ own name (pairs now.history.items) =
    rw (← c.self.view_is) at c.requires.own in
    let legal : IsLegal M c.args.history.now = c.requires.legal (rw (← c.self.view_is) c.self.invariant.replay.legal) in
    rw (← c.self.view_is) (
    of_open_known M name c.in-Some.open.now
    ((held_by now.host).at name) now.host.log.records (world_of M name now.history.items)
    (λ w. IfOk c.certificate.result (λ found. found.items ≡ certificate_at w))
    (sym c.in-Some.ensures)
    (λ w stands is. if_ok c.certificate.result (λ found h. h w
    now.host.log.records stands legal (ap (λ events. (alone M events).world) same ∙ is)) c.certificate.ensures)
    (c.self.invariant.replay.stands name))

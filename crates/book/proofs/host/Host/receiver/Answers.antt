use Rattle.std.proofs.Common.{◌≡◌, refl, bytes_eq}
use Rattle.std.specs.Prelude.{None}
use Rattle.indexmap.specs.IndexMap.{get}
use Rattle.book.specs.History.{receiver_at, world_of}
use Rattle.book.proofs.Answers.{of_closed, of_open}
use Rattle.book.proofs.host.Host.receiver.Goals as goal

pub returns-in-Some : goal.returns-in-Some
returns-in-Some g c = λ history replay.
    let M = g.H.Handler.meaning in
    let now = c.self.inside in
    let name = c.args.tenant.now in
    let held = rw (← c.self.view_is) at replay in
    of_open M name c.in-Some.open.now (get bytes_eq now.tenants name) now.log.records
    (λ w. c.receiver.result ≡ receiver_at M w c.args.letter)
    c.in-Some.ensures.value
    (λ w stands. c.receiver.ensures name w now.log.records stands)
    (world_of M name history)
    (held.stands name)

pub returns-in-None : goal.returns-in-None
returns-in-None g c = λ history replay.
    let M = g.H.Handler.meaning in
    let now = c.self.inside in
    let name = c.args.tenant.now in
    let held = rw (← c.self.view_is) at replay in
    of_closed M name (get bytes_eq now.tenants name) now.log.records (world_of M name history)
    (λ w. None ≡ receiver_at M w c.args.letter) refl
    c.in-None.ensures.value
    (held.stands name)

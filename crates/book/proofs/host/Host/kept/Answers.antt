use Rattle.std.proofs.Common.{bytes_eq}
use Rattle.indexmap.specs.IndexMap.{get}
use Rattle.book.proofs.PastKept.{kept_none, kept_open}
use Rattle.book.proofs.host.Host.kept.Goals as goal

pub returns-in-Some : goal.returns-in-Some
returns-in-Some g c = λ history replay.
    let M = g.H.Handler.meaning in
    let now = c.self.inside in
    let name = c.args.tenant.now in
    let held = rw (← c.self.view_is) at replay in
    kept_open M name history c.in-Some.open.now
    (get bytes_eq now.tenants name) now.log.records c.args.unit c.kept.result
    c.in-Some.ensures.value (held.stands name) (held.keeps name)
    (λ w shelves stands keeps. c.kept.ensures name w now.log.records shelves stands keeps)

pub returns-in-None : goal.returns-in-None
returns-in-None g c = λ history replay.
    let now = c.self.inside in
    let name = c.args.tenant.now in
    let held = rw (← c.self.view_is) at replay in
    kept_none g.H.Handler.meaning name history (get bytes_eq now.tenants name) now.log.records c.args.unit
    c.in-None.ensures.value (held.stands name)

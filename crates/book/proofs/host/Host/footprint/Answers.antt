use Rattle.std.proofs.Common.{bytes_eq, sym}
use Rattle.indexmap.specs.IndexMap.{get}
use Rattle.book.proofs.PastKept.{footprint_none, footprint_open}
use Rattle.book.proofs.host.Host.footprint.Goals as goal

pub returns-in-Some-clause-lengths : goal.returns-in-Some-clause-lengths
returns-in-Some-clause-lengths g c = λ history replay.
    let M = g.H.Handler.meaning in
    let now = c.self.inside in
    let name = c.args.tenant.now in
    let held = rw (← c.self.view_is) at replay in
    footprint_open M name history c.in-Some.open.now (get bytes_eq now.tenants name) now.log.records c.args.unit
    c.footprint.result c.in-Some.ensures.value (held.stands name) (held.keeps name)
    (λ w shelves stands keeps. c.footprint.ensures.lengths name w now.log.records shelves stands keeps)

pub returns-in-None-clause-lengths : goal.returns-in-None-clause-lengths
returns-in-None-clause-lengths g c = λ history replay.
    let now = c.self.inside in
    let name = c.args.tenant.now in
    let held = rw (← c.self.view_is) at replay in
    footprint_none g.H.Handler.meaning name history (get bytes_eq now.tenants name) now.log.records c.args.unit
    c.in-None.ensures.value (held.stands name)

pub returns-in-Some-clause-none : goal.returns-in-Some-clause-none
returns-in-Some-clause-none g c = λ none.
    let held = rw (← c.self.view_is) at none in
    c.footprint.ensures.none (held c.args.tenant.now c.in-Some.open.now (sym c.in-Some.ensures.value))

use Rattle.std.proofs.Common.{bytes_eq}
use Rattle.indexmap.specs.IndexMap.{get, keys}
use Rattle.book.proofs.Answers.{both_ok, if_ok}
use Rattle.book.proofs.Live.{opened_did}
use Rattle.book.proofs.answer.answer_unopened.Goals as goal

pub returns-in-Open-clause-did : goal.returns-in-Open-clause-did
returns-in-Open-clause-did g c =
    let old = c.args.tenants.now in
    let new = c.open_new.new.tenants in
    let o = c.in-Open in
    let e = c.open_new.ensures in
    rw (c.in-Open.is)
    (if_ok c.open_new.result
    (λ a h log. opened_did g.H.Handler.meaning c.args.name.now o.kinds o.quota o.optimism a (get bytes_eq old)
    (get bytes_eq new) (keys old) (keys new) log c.requires h.0 h.1.0 h.1.1.0 h.1.1.1)
    (both_ok _ _ c.open_new.result e.plain
    (both_ok _ _ c.open_new.result e.opened (both_ok _ _ c.open_new.result e.keeps e.names))))

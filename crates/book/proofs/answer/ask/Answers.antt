use Rattle.std.proofs.Common.{◌≡◌, bytes_eq}
use Rattle.model.specs.Addresses.{addressed}
use Rattle.indexmap.specs.IndexMap.{get}
use Rattle.book.specs.Commits.{needs_at}
use Rattle.book.proofs.Answers.{if_ok, of_open}
use Rattle.book.proofs.answer.ask.Goals as goal

pub returns : goal.returns
returns g c =
    let M = g.H.Handler.meaning in
    let step = c.args.step.now in
    let name = (addressed step).0 in
    if_ok c.prepare.result
    (λ a is w records stands. of_open M name c.in-Some.tenant.now (get bytes_eq c.args.tenants.now name) records
    (λ z. a ≡ needs_at M z (addressed step).1)
    (rw c.tenant.ensures at c.in-Some.ensures.value)
    (λ z found. (rw c.in_ok-own_step.ensures at is) name z records found) w stands)
    c.prepare.ensures

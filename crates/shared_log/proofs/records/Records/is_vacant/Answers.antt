use Rattle.std.proofs.Common.{arith}
use Rattle.std.specs.Prelude.{None}
use Rattle.shared_log.specs.Records.{in_blocks}
use Rattle.shared_log.proofs.Tables.{tabled_found, tabled_has, none_there}
use Rattle.shared_log.proofs.records.Records.is_vacant.Goals as goal

pub returns-then-place-self-clause-found : goal.returns-then-place-self-clause-found
returns-then-place-self-clause-found c = λ e.
    let h = (tabled_has (in_blocks c.self.inside.blocks) c.self.inside.count c.args.place c.args.self.now None
    c.self.view_is e).0 in
    absurd (omega (arith, h))

pub returns-clause-vacant : goal.returns-clause-vacant
returns-clause-vacant c = λ e.
    tabled_found (in_blocks c.self.inside.blocks) c.self.inside.count c.args.place c.args.self.now None
    c.self.view_is c.if-place-self.false (c.is_vacant.ensures.vacant e)

pub returns-clause-found : goal.returns-clause-found
returns-clause-found c = λ e.
    none_there c.is_vacant.result (in_blocks c.self.inside.blocks c.args.place) c.is_vacant.ensures.held
    (tabled_has (in_blocks c.self.inside.blocks) c.self.inside.count c.args.place c.args.self.now None
    c.self.view_is e).1

use Rattle.std.proofs.Common.{◌≡◌, ◌+◌, arith}
use Rattle.shared_log.specs.Records.{in_blocks}
use Rattle.shared_log.proofs.Tables.{tabled_back}
use Rattle.shared_log.proofs.records.Records.take_back.Goals as goal

pub returns-in-Some : goal.returns-in-Some
returns-in-Some c =
    let last : c.self.inside.count ≡ c.in-Some.last + 1 = grind (arith, c.in-Some.ensures) in
    tabled_back (in_blocks c.self.inside.blocks)
    (in_blocks c.empty.new.self) c.self.inside.count c.in-Some.last c.args.self.now last
    c.empty.ensures.rest c.self.view_is

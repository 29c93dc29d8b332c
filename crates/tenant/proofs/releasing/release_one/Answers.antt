use Rattle.std.proofs.Common.{slice_index}
use Rattle.output_commit.specs.Holds.{line_texts}
use Rattle.tenant.proofs.Leaving.{moved_one}
use Rattle.tenant.proofs.releasing.release_one.Goals as goal

pub returns-in-Ok-clause-moved : goal.returns-in-Ok-clause-moved
returns-in-Ok-clause-moved c =
    moved_one (slice_index c.args.frontiers.now c.args.hold.now.unit)
    c.args.hold.now.outputs c.in-Some.ticket.output c.take_front.new.self.outputs
    (line_texts c.args.outlet.now c.args.hold.now.unit) (line_texts c.emit.new.self c.args.hold.now.unit)
    c.in-Some.ensures.some.0 c.in-Some.ensures.firm (rw (c.in-Some.ensures.none) at c.in-Ok.ensures.ok)

use Rattle.std.proofs.Common.{◌≡◌, take, map}
use Rattle.model.specs.FailureFree.{new_worker}
use Rattle.audit.proofs.moves.workers_at.Given as goal

abbrev pub invariant-loop-seat : goal.invariant-loop-seat
invariant-loop-seat g l = l.workers.items ≡ map (new_worker g.H.Handler.meaning) (take l.seat-index l.seats)

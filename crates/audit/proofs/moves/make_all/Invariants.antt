use Rattle.std.proofs.Common.{◌≡◌, drop}
use Rattle.model.specs.FailureFree.{run_from}
use Rattle.audit.specs.Working.{AreInOrder}
use Rattle.audit.proofs.moves.make_all.Given as goal

abbrev pub invariant-loop-next : goal.invariant-loop-next
invariant-loop-next g l = AreInOrder l.net.workers
    × (run_from g.H.Handler.meaning l.net (drop l.next-index l.moves) ≡ run_from g.H.Handler.meaning l.fn.net l.moves)

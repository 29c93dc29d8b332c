use Rattle.std.proofs.Common.{◌≡◌, take}
use Rattle.compact.specs.Laws.{replayed}
use Rattle.rollback.proofs.replay.replay_all.Given as goal

-- the progress is that after the records before this one
abbrev pub invariant-loop-logged : goal.invariant-loop-logged
invariant-loop-logged g l =
    l.progress ≡ replayed g.H.Handler.meaning l.seat l.initial.progress (take l.logged-index l.records)

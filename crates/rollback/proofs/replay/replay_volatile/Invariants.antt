use Rattle.std.proofs.Common.{◌≡◌, take}
use Rattle.compact.specs.Laws.{replayed}
use Rattle.rollback.proofs.replay.replay_volatile.Given as goal

-- the progress is that after the records before this place
abbrev pub invariant-loop-place : goal.invariant-loop-place
invariant-loop-place g l =
    l.progress ≡ replayed g.H.Handler.meaning l.seat l.initial.progress (take l.place l.volatile.records)

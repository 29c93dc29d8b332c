use Rattle.std.proofs.Common.{sym, ◌∙◌, ap}
use Rattle.compact.specs.Laws.{replayed_one}
use Rattle.rollback.proofs.Replays.{replayed_more}
use Rattle.rollback.proofs.replay.replay_volatile.Goals as goal

pub loop-place-preserved : goal.loop-place-preserved
loop-place-preserved g c =
    c.in_ok-replay_one.ensures
    ∙ ap (λ p. replayed_one g.H.Handler.meaning c.args.seat.now p c.at.result.now) c.loop-place.invariant
    ∙ sym (replayed_more g.H.Handler.meaning c.args.seat.now
    c.args.progress.now c.args.volatile.now.records c.loop-place.place c.at.result.now c.at.ensures)

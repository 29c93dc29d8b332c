use Rattle.std.proofs.Common.{inr}
use Rattle.std.proofs.lemmas.Result.{err_from_is_err_and}
use Rattle.lines.specs.Doing.{DoesBy}
use Rattle.lines.proofs.Runs.{Keeps-then, Keeps-then_beginning}
use Rattle.driver.proofs.Rounds.{long_round}
use Rattle.driver.proofs.driving.drive_next.Goals as goal

pub returns-in_err-put_reply-in-Long-clause-err : goal.returns-in_err-put_reply-in-Long-clause-err
returns-in_err-put_reply-in-Long-clause-err g c =
    let p = err_from_is_err_and
    c.from_residual-in_err-put_reply-in-Long.result c.from_residual-in_err-put_reply-in-Long.ensures.1 in
    let line = rw c.in-Long.is at c.in_ok-read_line.ensures.heard in
    let round = long_round (DoesBy g.F.Fn c.args.step.now) line.0 c.bad_line.result _ line.1 c.bad_line.ensures in
    rw p.1 (inr (
      line.0,
      round.0,
      line.2,
      round.1,
      Keeps-then_beginning
          _ _ _ _ c.read_line.ensures.keeps (round.2.1 _ _ c.in_err-put_reply-in-Long.ensures.err),
    ))

pub returns-in_ok-put_reply-in-Long-clause-took : goal.returns-in_ok-put_reply-in-Long-clause-took
returns-in_ok-put_reply-in-Long-clause-took g c =
    let line = rw c.in-Long.is at c.in_ok-read_line.ensures.heard in
    let round = long_round (DoesBy g.F.Fn c.args.step.now) line.0 c.bad_line.result _ line.1 c.bad_line.ensures in (
      line.0,
      round.0,
      line.2,
      round.1,
      Keeps-then _ _ _ _ c.read_line.ensures.keeps (round.2.0 _ _ c.in_ok-put_reply-in-Long.ensures.ok),
    )

pub returns-in_err-drive_line-in-Line-clause-err : goal.returns-in_err-drive_line-in-Line-clause-err
returns-in_err-drive_line-in-Line-clause-err g c =
    let p = err_from_is_err_and
    c.from_residual-in_err-drive_line-in-Line.result c.from_residual-in_err-drive_line-in-Line.ensures.1 in
    let heard = rw c.in-Line.is at c.in_ok-read_line.ensures.heard in
    let x = rw c.as_slice-line.ensures.value at c.in_err-drive_line-in-Line.ensures in
    rw p.1 (inr (
      c.read_line.new.held.items,
      x.0,
      heard.1,
      x.1,
      Keeps-then_beginning _ _ _ _ c.read_line.ensures.keeps x.2.0,
    ))

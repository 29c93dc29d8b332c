use Rattle.std.proofs.Common.{inr, refl}
use Rattle.std.proofs.lemmas.Result.{err_from_is_err_and}
use Rattle.lines.proofs.Runs.{IsTaken, fault_taken, long_taken, step_taken, Keeps-then, Keeps-then_beginning}
use Rattle.lines.specs.Doing.{DoesBy}
use Rattle.lines.proofs.serving.serve_line.Goals.{in-Long, in-Line+in-Ok, in-Line+in-Err}
use Rattle.lines.proofs.serving.serve_line.Goals as goal

pub returns-in_err-put_reply-clause-err : goal.returns-in_err-put_reply-clause-err
returns-in_err-put_reply-clause-err g c =
    let Does = DoesBy g.F.Fn c.args.step.now in
    let held = c.read_line.new.held.items in
    let p = err_from_is_err_and c.from_residual-in_err-put_reply.result c.from_residual-in_err-put_reply.ensures.1 in
    let taken : IsTaken Does held (g.R.Read.remaining c.args.reader.now.inner)
    (g.R.Read.remaining c.read_line.new.reader.inner) c.args.book.now c.match-branch-2.reply
    c.match-branch-2.book =
    elim c.match-branch-2.branch [
      | in-Long w ↦
          rw (w.reply-is, w.book-is, w.fault_reply-reply.ensures)
          (long_taken Does held _ _ _ (rw w.in-Long.is at c.in_ok-read_line.ensures.heard))
      | in-Line+in-Ok w ↦
          let read = rw w.in-Line.is at c.in_ok-read_line.ensures.heard in
          let is = rw w.as_slice.ensures.value at w.in-Ok.ensures in
          rw (w.reply-is, w.book-is) (step_taken Does held _ _ w.in-Ok.read _ _ _ read is
          (record { argument = _; argument_is = refl; after_call = _; call = w.step.ensures; left = refl }))
      | in-Line+in-Err w ↦
          let read = rw w.in-Line.is at c.in_ok-read_line.ensures.heard in
          let is = rw w.as_slice.ensures.value at w.in-Err.ensures in
          rw (w.reply-is, w.book-is, w.fault_reply.ensures) (fault_taken Does held _ _ _ w.in-Err.fault read is)
    ] in rw p.1 (inr (
      taken.0,
      c.match-branch-2.reply,
      taken.1,
      taken.2,
      Keeps-then_beginning _ _ _ _ c.read_line.ensures.keeps c.in_err-put_reply.ensures.err,
    ))

pub returns-clause-took : goal.returns-clause-took
returns-clause-took g c =
    let Does = DoesBy g.F.Fn c.args.step.now in
    let held = c.read_line.new.held.items in
    let taken : IsTaken Does held (g.R.Read.remaining c.args.reader.now.inner)
    (g.R.Read.remaining c.read_line.new.reader.inner) c.args.book.now c.match-branch-2.reply
    c.match-branch-2.book =
    elim c.match-branch-2.branch [
      | in-Long w ↦
          rw (w.reply-is, w.book-is, w.fault_reply-reply.ensures)
          (long_taken Does held _ _ _ (rw w.in-Long.is at c.in_ok-read_line.ensures.heard))
      | in-Line+in-Ok w ↦
          let read = rw w.in-Line.is at c.in_ok-read_line.ensures.heard in
          let is = rw w.as_slice.ensures.value at w.in-Ok.ensures in
          rw (w.reply-is, w.book-is) (step_taken Does held _ _ w.in-Ok.read _ _ _ read is
          (record { argument = _; argument_is = refl; after_call = _; call = w.step.ensures; left = refl }))
      | in-Line+in-Err w ↦
          let read = rw w.in-Line.is at c.in_ok-read_line.ensures.heard in
          let is = rw w.as_slice.ensures.value at w.in-Err.ensures in
          rw (w.reply-is, w.book-is, w.fault_reply.ensures) (fault_taken Does held _ _ _ w.in-Err.fault read is)
    ] in (
      taken.0,
      c.match-branch-2.reply,
      taken.1,
      taken.2,
      Keeps-then _ _ _ _ c.read_line.ensures.keeps c.in_ok-put_reply.ensures.ok,
    )

use Rattle.std.proofs.Common.{◌++◌, ◌∷◌, [], sym, subst, append_assoc, arith}
use Rattle.std.specs.Io.KnownBytes.{Consumes}
use Rattle.std.proofs.lemmas.Result.{err_from_is_err_and}
use Rattle.std.proofs.KnownBytes.{Consumes-trans, Keeps-trans}
use Rattle.lines.specs.Lines.{Holds}
use Rattle.lines.proofs.Parts.{IsPart-append, LinesRead-ended, TakesPart-kept, heard_line, heard_last}
use Rattle.lines.proofs.input.read_line.Goals as goal

pub returns-in-Ended-clause-heard : goal.returns-in-Ended-clause-heard
returns-in-Ended-clause-heard g c =
    let before = c.loop-ahead.invariant.so_far in
    let now = rw c.in-Ended.is at c.in_ok-fill.ensures.takes in
    let part = IsPart-append before.0 now.0 before.1 now.1 in
    let taken =
    subst (Consumes _ _) (sym (append_assoc before.0 now.0 (10 ∷ []))) (Consumes-trans _ _ _ _ _ before.2 now.2) in
    rw c.line_kind.ensures (heard_line _ _ _ _ _ (now.3 before.0 before.3) (LinesRead-ended _ _ _ part taken))

pub returns-in-AtEnd-clause-heard : goal.returns-in-AtEnd-clause-heard
returns-in-AtEnd-clause-heard g c =
    let before = c.loop-ahead.invariant.so_far in
    let now = rw c.in-AtEnd.is at c.in_ok-fill.ensures.takes in
    let held : Holds c.fill.new.held.items c.fill.new.is_long before.0 = rw (now.2, now.3) before.3 in
    rw (c.heard_at_end.ensures, c.as_slice.ensures.value) (heard_last _ _ _ _ _ _ held before.1 before.2 now.0 now.1)

pub returns-in_err-flush_unless-clause-part : goal.returns-in_err-flush_unless-clause-part
returns-in_err-flush_unless-clause-part g c =
    let before = c.loop-ahead.invariant.so_far in
    let p = err_from_is_err_and c.from_residual.result c.from_residual.ensures.1 in
    rw p.1 (before.0, before.1, before.2)

pub returns-in_err-fill-clause-part : goal.returns-in_err-fill-clause-part
returns-in_err-fill-clause-part g c =
    let before = c.loop-ahead.invariant.so_far in
    let p = err_from_is_err_and c.from_residual-in_err-fill.result c.from_residual-in_err-fill.ensures.1 in
    rw p.1 (TakesPart-kept _ _ _ (before.0, before.1, before.2) c.in_err-fill.ensures.kept)

pub loop-ahead-preserved : goal.loop-ahead-preserved
loop-ahead-preserved g c =
    let before = c.loop-ahead.invariant.so_far in
    let now = rw c.in-More.is at c.in_ok-fill.ensures.takes in
    record {
      room = c.fill.ensures.room;
      read_same = omega (arith, c.loop-ahead.invariant.read_same, c.in_ok-fill.ensures.same);
      write_same = omega (arith, c.loop-ahead.invariant.write_same, c.in_ok-flush_unless.ensures.same);
      fewer = omega (arith, c.loop-ahead.invariant.fewer, c.in_ok-fill.ensures.fewer);
      keeps = Keeps-trans _ _ _ c.loop-ahead.invariant.keeps c.flush_unless.ensures.keeps;
      so_far = (
        before.0 ++ now.0,
        IsPart-append before.0 now.0 before.1 now.1,
        Consumes-trans _ _ _ _ _ before.2 now.2,
        now.3 before.0 before.3,
      );
    }

use Rattle.std.proofs.Common.{◌++◌, ◌∷◌, [], sym, subst, append_assoc, arith}
use Rattle.std.specs.Io.KnownBytes.{Consumes}
use Rattle.std.proofs.KnownBytes.{Consumes-trans}
use Rattle.lines.specs.Lines.{Holds}
use Rattle.lines.proofs.Parts.{IsPart-append, LinesRead-ended, heard_line, heard_last}
use Rattle.lines.proofs.feed.feed_line.Goals as goal

pub returns-in-Ended-clause-heard : goal.returns-in-Ended-clause-heard
returns-in-Ended-clause-heard g c =
    let before = c.loop-held.invariant.so_far in
    let now = rw c.in-Ended.is at c.in_ok-fill.ensures.takes in
    let part = IsPart-append before.0 now.0 before.1 now.1 in
    let taken =
    subst (Consumes _ _) (sym (append_assoc before.0 now.0 (10 ∷ []))) (Consumes-trans _ _ _ _ _ before.2 now.2) in
    rw c.line_kind.ensures (heard_line _ _ _ _ _ (now.3 before.0 before.3) (LinesRead-ended _ _ _ part taken))

pub returns-in-AtEnd-clause-heard : goal.returns-in-AtEnd-clause-heard
returns-in-AtEnd-clause-heard g c =
    let before = c.loop-held.invariant.so_far in
    let now = rw c.in-AtEnd.is at c.in_ok-fill.ensures.takes in
    let held : Holds c.fill.new.held.items c.fill.new.is_long before.0 = rw (now.2, now.3) before.3 in
    rw (c.heard_at_end.ensures, c.as_slice.ensures.value) (heard_last _ _ _ _ _ _ held before.1 before.2 now.0 now.1)

pub loop-held-preserved : goal.loop-held-preserved
loop-held-preserved g c =
    let before = c.loop-held.invariant.so_far in
    let now = rw c.in-More.is at c.in_ok-fill.ensures.takes in
    record {
      room = c.fill.ensures.room;
      same = omega (arith, c.loop-held.invariant.same, c.in_ok-fill.ensures.same);
      fewer = omega (arith, c.loop-held.invariant.fewer, c.in_ok-fill.ensures.fewer);
      so_far = (
        before.0 ++ now.0,
        IsPart-append before.0 now.0 before.1 now.1,
        Consumes-trans _ _ _ _ _ before.2 now.2,
        now.3 before.0 before.3,
      );
    }

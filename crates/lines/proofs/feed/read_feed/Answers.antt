use Rattle.std.proofs.Common.{◌≡◌, ◌++◌, ◌∷◌, [], arith, refl, rules}
use Rattle.lines.proofs.Feeds.{feed_goes_on}
use Rattle.lines.proofs.Parts.{LinesRead-nil}
use Rattle.lines.proofs.feed.read_feed.Goals as goal

pub loop-found-init : goal.loop-found-init
loop-found-init g c = record {
  room = search rules;
  same = refl;
  read = ([], LinesRead-nil _, search rules);
}

pub loop-found-preserved : goal.loop-found-preserved
loop-found-preserved g c =
    let so_far = c.loop-found.invariant.read in
    let grown : c.push.new.self.items ≡ c.loop-found.found.items ++ c.in_one_piece.result ∷ [] = search rules in
    let is = rw (c.as_slice.ensures.value, ← c.in_one_piece.ensures) at c.read_heard-read.ensures in
    record {
      room = c.feed_line.ensures.room;
      same = omega (arith, c.loop-found.invariant.same, c.in_ok-kind.ensures.same);
      read = rw
          grown (feed_goes_on _ _ _ _ _ _ _ _ c.in_default-2.not-End c.in_ok-kind.ensures.heard is so_far.1 so_far.2);
    }

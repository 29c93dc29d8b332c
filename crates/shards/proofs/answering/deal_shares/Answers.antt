use Rattle.std.proofs.Common.{◌≡◌, ◌*◌, arith, length, map, min}
use Rattle.dealing.specs.Dealing.{dealt}
use Rattle.shards.proofs.Dealt.{dealt_upto, shares_end}
use Rattle.shards.proofs.answering.deal_shares.Goals as goal

pub returns-clause-dealt : goal.returns-clause-dealt
returns-clause-dealt g c =
    let all : c.loop-at.at ≡ length c.args.readers.now =
    omega (arith, c.loop-at.auto.at-end, c.loop-at-test.false, c.loop-at.auto.readers) in
    dealt_upto (dealt (length c.args.shards.now)) c.args.lines.now
    (min (c.loop-at.at * c.args.size) (length c.args.lines.now)) (length c.args.lines.now) c.loop-at.places.items
    (map (λ s. s.steps.items) c.loop-at.shards)
    (shares_end c.loop-at.at (length c.args.readers.now) c.args.size (length c.args.lines.now) all c.requires.enough)
    c.loop-at.invariant.dealt

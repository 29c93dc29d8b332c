use Rattle.std.proofs.Common.{◌≡◌, ◌∙◌, arith, length, map}
use Rattle.dealing.specs.Dealing.{dealt}
use Rattle.shards.proofs.Dealt.{dealt_more, dealt_upto}
use Rattle.shards.proofs.answering.deal_share.Goals as goal

pub loop-at-preserved : goal.loop-at-preserved
loop-at-preserved g c = record {
  hosts = c.deal_one-place.ensures.hosts ∙ c.loop-at.invariant.hosts;
  capacity = c.push_reserved.ensures.capacity ∙ c.loop-at.invariant.capacity;
  read = c.next-read.ensures.others;
  dealt = dealt_more (length c.args.shards.now) (length c.loop-at.shards) c.args.lines.now c.loop-at.at
      c.loop-at.places.items c.push_reserved.new.self.items (map (λ s. s.steps.items) c.loop-at.shards)
      (map (λ s. s.steps.items) c.deal_one-place.new.shards) c.next-read.result c.deal_one-place.ensures.dealt.0
      c.deal_one-place.result c.loop-at.auto.shards c.loop-at.invariant.dealt c.next-read.ensures.read
      c.deal_one-place.ensures.dealt.1 c.deal_one-place.ensures.dealt.2 c.push_reserved.ensures.items;
}

pub returns-clause-dealt : goal.returns-clause-dealt
returns-clause-dealt g c =
    let end : c.loop-at.at ≡ c.args.to =
    omega (arith, c.loop-at.auto.at-end c.requires.order, c.loop-at-test.false) in
    dealt_upto (dealt (length c.args.shards.now)) c.args.lines.now c.loop-at.at c.args.to c.loop-at.places.items
    (map (λ s. s.steps.items) c.loop-at.shards) end c.loop-at.invariant.dealt

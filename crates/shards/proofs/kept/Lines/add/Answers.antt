use Rattle.shards.specs.Kept.{kept_in}
use Rattle.shards.proofs.Readings.{kept_more}
use Rattle.shards.proofs.kept.Lines.add.Goals as goal

pub returns : goal.returns
returns c = (
  kept_in c.keep-span.new.bytes.items c.keep-span.result,
  c.keep-span.ensures.kept,
  kept_more c.self.inside.bytes.items c.keep-span.new.bytes.items c.keep-span.ensures.grown.0 c.self.inside.spans.items
      c.push_reserved.new.self.items c.keep-span.result c.args.self.now c.keep-span.ensures.grown.1 c.self.invariant.0
      c.push_reserved.ensures.items c.self.view_is,
)

use Rattle.shards.proofs.Readings.{fault_at, unread_at}
use Rattle.shards.proofs.kept.Lines.unread.Goals as goal

pub returns-in-Text : goal.returns-in-Text
returns-in-Text c =
    unread_at c.self.inside.bytes.items c.self.inside.spans.items c.args.self.now c.args.at c.index.result.now
    c.in-Text.field-0 c.in-Text.field-1 c.self.view_is c.requires c.index.ensures c.in-Text.is

pub returns-in-Not : goal.returns-in-Not
returns-in-Not c =
    fault_at c.self.inside.bytes.items c.self.inside.spans.items c.args.self.now c.args.at c.index.result.now
    c.in-Not.fault c.self.view_is c.requires c.index.ensures c.in-Not.is

use Rattle.std.proofs.Common.{◌-◌, take, drop, subst, sym}
use Rattle.lines.specs.Feeds.{IsReading}
use Rattle.lines.specs.declared.input.LineRead.TheVariants.{Line}
use Rattle.shards.specs.Kept.{IsReadingOf, kept_in}
use Rattle.shards.proofs.Readings.{fault_at, read_at}
use Rattle.shards.proofs.kept.Lines.read.Goals as goal

pub returns-in-Text : goal.returns-in-Text
returns-in-Text c =
    read_at c.self.inside.bytes.items c.self.inside.spans.items c.args.self.now c.args.at c.index.result.now
    c.read_heard.result c.self.view_is c.requires c.index.ensures
    (subst (λ s. IsReadingOf (kept_in c.self.inside.bytes.items s) c.read_heard.result) (sym c.in-Text.is)
    (subst (λ b. IsReading Line (take (c.in-Text.to - c.in-Text.from) (drop c.in-Text.from b)) c.read_heard.result)
    c.deref.ensures.value c.read_heard.ensures))

pub returns-in-Not : goal.returns-in-Not
returns-in-Not c =
    fault_at c.self.inside.bytes.items c.self.inside.spans.items c.args.self.now c.args.at c.index.result.now
    c.in-Not.fault c.self.view_is c.requires c.index.ensures c.in-Not.is

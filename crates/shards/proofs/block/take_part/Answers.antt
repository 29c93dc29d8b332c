use Rattle.std.proofs.Common.{◌≡◌, subst}
use Rattle.std.specs.Prelude.{true}
use Rattle.lines.specs.Parts.{Takes}
use Rattle.shards.proofs.block.take_part.Goals as goal

pub returns-in-Ok-clause-ok : goal.returns-in-Ok-clause-ok
returns-in-Ok-clause-ok g c begin answered heard =
    c.take_read.ensures.takes begin (g.R.Read.remaining c.args.reader.now.inner) (g.R.Read.remaining
    c.fill.new.reader.inner) answered c.args.block.now.held.items c.args.block.now.is_long c.in-Ok.ensures.takes heard

pub returns-in-Ok-clause-end : goal.returns-in-Ok-clause-end
returns-in-Ok-clause-end g c e =
    let yes : c.take_read.result ≡ true = cc in
    let end = c.take_read.ensures.end yes in
    let took = subst (λ p. Takes p (g.R.Read.remaining c.args.reader.now.inner)
    (g.R.Read.remaining c.fill.new.reader.inner) c.args.block.now.held.items
    c.args.block.now.is_long c.fill.new.held.items c.fill.new.is_long) end.0 c.in-Ok.ensures.takes in
    (took.0, took.1, end.1, end.2)

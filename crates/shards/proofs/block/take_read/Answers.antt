use Rattle.std.proofs.Common.{◌∙◌, ◌+◌, ap, cond, eqb, length, subst}
use Rattle.lines.specs.Parts.{Takes}
use Rattle.lines.specs.declared.input.LineRead.TheVariants.{Line, Long, End}
use Rattle.shards.proofs.GoingOn.{line_ended, line_last, line_so}
use Rattle.shards.proofs.block.take_read.Goals as goal

pub returns-in-Ended-clause-takes : goal.returns-in-Ended-clause-takes
returns-in-Ended-clause-takes c begin input input' answered held is_long took heard =
    let t = subst (λ p. Takes p input input' held is_long c.args.block.now.held.items c.args.block.now.is_long)
    c.in-Ended.is took in
    let added = c.add_line.ensures.added in
    line_so begin input' answered c.add_line.new.block.held.items c.add_line.new.block.is_long
    c.add_line.new.block.lines (c.args.block.now.count + 1) c.add_line.new.block.count
    c.add_line.ensures.held c.add_line.ensures.short c.add_line.ensures.count
    (line_ended begin input answered _ heard input' c.in-Ended.more c.args.block.now.held.items
    c.args.block.now.is_long added.0 c.add_line.new.block.lines t added.1 added.2)

pub returns-in_default-clause-takes : goal.returns-in_default-clause-takes
returns-in_default-clause-takes c begin input input' answered held is_long took heard =
    let t = subst (λ p. Takes p input input' held is_long c.args.block.now.held.items c.args.block.now.is_long)
    c.in-AtEnd.is took in
    let added = c.add_line-in_default.ensures.added in
    let is = c.heard_at_end.ensures
    ∙ ap (λ l. cond c.args.block.now.is_long Long (cond (eqb (length l) 0) End Line)) c.as_slice.ensures.value in
    line_so begin input' answered c.add_line-in_default.new.block.held.items c.add_line-in_default.new.block.is_long
    c.add_line-in_default.new.block.lines (c.args.block.now.count + 1) c.add_line-in_default.new.block.count
    c.add_line-in_default.ensures.held c.add_line-in_default.ensures.short c.add_line-in_default.ensures.count
    (line_last begin input answered _ heard input' c.args.block.now.held.items
    c.args.block.now.is_long _ added.0 c.add_line-in_default.new.block.lines t is c.in_default.not-End added.1 added.2)

use Rattle.std.proofs.Common.{sym, ◌∙◌, ap, drop_of_length-le}
use Rattle.std.specs.List.{fold}
use Rattle.std.specs.Option.{option_copied}
use Rattle.checkpoint.specs.Shelves.{later_of}
use Rattle.checkpoint.proofs.Nearest.{nearest_tells}
use Rattle.checkpoint.proofs.shelf.nearest_among.Goals as goal

pub returns-clause-greatest : goal.returns-clause-greatest
returns-clause-greatest g c =
    nearest_tells (record { base = c.args.base.now; others = c.args.others.now })
    c.requires c.args.index (option_copied c.loop-x.best)
    (ap (fold (later_of c.args.index) (option_copied c.loop-x.best))
    (sym (drop_of_length-le c.args.others.now c.loop-x-test.false)) ∙ c.loop-x.invariant)

use Rattle.std.proofs.Common.{◌∙◌, sym, reverse}
use Rattle.spent_letters.specs.Stretches.{Packed}
use Rattle.spent_letters.proofs.Packing.{first_told, may_follow, not_full}
use Rattle.spent_letters.proofs.spent_letters.can_follow.Goals as goal

pub returns-then-head-ne-HEAD : goal.returns-then-head-ne-HEAD
returns-then-head-ne-HEAD c =
    let p : Packed = record { stretches = reverse c.args.stretches.now; tail = c.args.tail.now } in
    not_full p c.args.head.now c.if-head-ne-HEAD.true

pub returns : goal.returns
returns c =
    let p : Packed = record { stretches = reverse c.args.stretches.now; tail = c.args.tail.now } in
    may_follow p c.args.head.now c.is_told.result c.if-head-ne-HEAD.false
    (sym c.is_empty.ensures ∙ c.if-not-is_empty.false)
    (c.is_told.ensures ∙ first_told p.stretches c.args.head.now c.index-head-0.result c.if-head-ne-HEAD.false
    c.index-head-0.is)

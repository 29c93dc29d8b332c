use Rattle.std.proofs.Common.{◌∙◌, ap, drop}
use Rattle.std.proofs.lemmas.List.{drop-drop}
use Rattle.volatile_log.proofs.log.pop_fronts.Goals as goal

-- one more is gone
pub loop-preserved : goal.loop-preserved
loop-preserved c = record {
  items = c.pop_front.ensures.rest ∙ ap (drop 1) c.loop.invariant.items
      ∙ drop-drop 1 c.loop.counter c.args.records.now.items;
  capacity = c.pop_front.ensures.capacity ∙ c.loop.invariant.capacity;
}

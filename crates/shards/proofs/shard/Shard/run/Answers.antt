use Rattle.std.proofs.Common.{◌≡◌, ◌++◌, ◌∷◌, [], sym, ap, ◌∙◌, append_assoc, rules}
use Rattle.shards.specs.Blocks.{Tells}
use Rattle.shards.proofs.Merging.{DoesEach-more}
use Rattle.shards.proofs.shard.Shard.run.Goals as goal

pub loop-step-preserved : goal.loop-step-preserved
loop-step-preserved g c =
    let so_far = c.loop-step.invariant in
    let one = c.answer.ensures.done in
    let popped : c.loop-step.self.steps.items ≡ c.in-Some.step ∷ c.answer.new.self.steps.items = search rules in (
      so_far.0 ++ c.in-Some.step ∷ [],
      so_far.1 ++ one.0 ∷ [],
      so_far.2 ∙ ap (λ l. so_far.0 ++ l) popped
          ∙ sym (append_assoc so_far.0 (c.in-Some.step ∷ []) c.answer.new.self.steps.items),
      DoesEach-more (Tells g.H.Handler.meaning c.args.drives) so_far.0 _ _ _ so_far.1 c.in-Some.step one.0 so_far.3
          one.1,
      one.2 so_far.1 so_far.4,
    )

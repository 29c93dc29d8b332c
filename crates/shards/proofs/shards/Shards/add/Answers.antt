use Rattle.std.proofs.Common.{◌<◌, ◌∷◌, [], length, map, sym, subst, arith, length-append}
use Rattle.shards.specs.Blocks.{AreIdle}
use Rattle.shards.proofs.Answered.{idle_more}
use Rattle.shards.proofs.shards.Shards.add.Goals as goal

pub invariant_of-self : goal.invariant_of-self
invariant_of-self g c = subst (λ l. (0 < length l)
    × AreIdle (map (λ x. x.steps.items) l)) (sym c.in_err-push.ensures.items) c.self.invariant

pub invariant_of-self-2 : goal.invariant_of-self-2
invariant_of-self-2 g c =
    subst (λ l. (0 < length l) × AreIdle (map (λ x. x.steps.items) l)) (sym c.in_ok-push.ensures.items) (
      omega (arith, length-append c.self.inside.shards.items (c.new-shard.result ∷ [])),
      idle_more (λ x. x.steps.items)
          c.self.inside.shards.items c.new-shard.result c.self.invariant.1 c.new-shard.ensures.steps,
    )

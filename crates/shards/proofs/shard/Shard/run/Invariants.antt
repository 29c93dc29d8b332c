use Rattle.std.proofs.Common.{◌≡◌, ◌++◌, ℕ, List, length}
use Rattle.model.specs.declared.steps.Step.{Step}
use Rattle.shards.specs.Blocks.{DoesEach, Tells, ToldSo}
use Rattle.shards.proofs.shard.Shard.run.Given as goal

-- the steps so far are done, and their answers are told
abbrev pub invariant-loop-step : goal.invariant-loop-step
invariant-loop-step g l =
    (done : List Step) × (answers : List (List ℕ)) × (l.fn.self.steps.items ≡ done ++ l.self.steps.items)
    × DoesEach (Tells g.H.Handler.meaning l.fn.drives) done l.fn.self.host answers l.self.host
    × ToldSo l.is_full answers l.self.bytes.items l.self.lens.items

abbrev pub decreases-loop-step : goal.decreases-loop-step
decreases-loop-step g l = length l.self.steps.items

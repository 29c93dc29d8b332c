-- The steps that a driver gives.
use Rattle.std.specs.Prelude.{ℕ, List}
use Rattle.model.specs.declared.steps.Step.{Step}
use Rattle.model.specs.declared.steps.Step.TheVariants.{Deliver, Flush, Notice, Release}
use Rattle.flows.specs.declared.chore.Chore.{Chore}
use Rattle.flows.specs.declared.chore.Chore.TheVariants.{Deliver as DeliverOne, Flush as FlushOne, Notice as NoticeOne}
use Rattle.flows.specs.declared.chore.Chore.TheVariants.{Release as ReleaseOne}

-- It delivers, flushes, notices and releases.
abbrev pub chore_step : List ℕ → Chore → Step
chore_step tenant (DeliverOne letter unit) = Deliver tenant letter
chore_step tenant (FlushOne unit) = Flush tenant unit
chore_step tenant (NoticeOne unit) = Notice tenant unit
chore_step tenant (ReleaseOne unit) = Release tenant unit

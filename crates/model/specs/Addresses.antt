-- Which tenant a step is of.
use Rattle.std.specs.Prelude.{ℕ, List}
use Rattle.model.specs.declared.steps.Step.{Step}
use Rattle.model.specs.declared.steps.Step.TheVariants.{Open, Join, Post, Deliver, Flush, Checkpoint, Kill, Restart}
use Rattle.model.specs.declared.steps.Step.TheVariants.{Notice, Release, Status}
use Rattle.model.specs.declared.steps.TenantStep.{TenantStep}
use Rattle.model.specs.declared.steps.TenantStep.TheVariants.{Open, Join, Post, Deliver, Flush, Checkpoint, Kill}
use Rattle.model.specs.declared.steps.TenantStep.TheVariants.{Restart, Notice, Release, Status}

-- the tenant that a step names, and the step without that name
abbrev pub addressed : Step → List ℕ × TenantStep
addressed (Open tenant kinds quota optimism) = (tenant, Open kinds quota optimism)
addressed (Join tenant kind) = (tenant, Join kind)
addressed (Post unit number tenant text) = (tenant, Post unit number text)
addressed (Deliver tenant letter) = (tenant, Deliver letter)
addressed (Flush tenant unit) = (tenant, Flush unit)
addressed (Checkpoint tenant unit) = (tenant, Checkpoint unit)
addressed (Kill tenant unit) = (tenant, Kill unit)
addressed (Restart tenant unit) = (tenant, Restart unit)
addressed (Notice tenant unit) = (tenant, Notice unit)
addressed (Release tenant unit) = (tenant, Release unit)
addressed (Status tenant unit) = (tenant, Status unit)

-- the step that names the tenant, and is this one without that name
abbrev pub whole : List ℕ → TenantStep → Step
whole tenant (Open kinds quota optimism) = Open tenant kinds quota optimism
whole tenant (Join kind) = Join tenant kind
whole tenant (Post unit number text) = Post unit number tenant text
whole tenant (Deliver letter) = Deliver tenant letter
whole tenant (Flush unit) = Flush tenant unit
whole tenant (Checkpoint unit) = Checkpoint tenant unit
whole tenant (Kill unit) = Kill tenant unit
whole tenant (Restart unit) = Restart tenant unit
whole tenant (Notice unit) = Notice tenant unit
whole tenant (Release unit) = Release tenant unit
whole tenant (Status unit) = Status tenant unit

-- A step taken apart, and put together again.
use Rattle.std.proofs.Common.{◌≡◌, ◌∙◌, ℕ, List, ap, refl, sym}
use Rattle.model.specs.Addresses.{addressed, whole}
use Rattle.model.specs.declared.steps.Step.{Step}
use Rattle.model.specs.declared.steps.Step.TheVariants.{Open, Join, Post, Deliver, Flush, Checkpoint, Kill, Restart}
use Rattle.model.specs.declared.steps.Step.TheVariants.{Notice, Release, Status}
use Rattle.model.specs.declared.steps.TenantStep.{TenantStep}
use Rattle.model.specs.declared.steps.TenantStep.TheVariants.{Open, Join, Post, Deliver, Flush, Checkpoint, Kill}
use Rattle.model.specs.declared.steps.TenantStep.TheVariants.{Restart, Notice, Release, Status}

-- a name and a step put together are taken apart again
pub addressed_of_whole : (tenant : List ℕ) (own : TenantStep) → addressed (whole tenant own) ≡ (tenant, own)
addressed_of_whole tenant (Open kinds quota optimism) = refl
addressed_of_whole tenant (Join kind) = refl
addressed_of_whole tenant (Post unit number text) = refl
addressed_of_whole tenant (Deliver letter) = refl
addressed_of_whole tenant (Flush unit) = refl
addressed_of_whole tenant (Checkpoint unit) = refl
addressed_of_whole tenant (Kill unit) = refl
addressed_of_whole tenant (Restart unit) = refl
addressed_of_whole tenant (Notice unit) = refl
addressed_of_whole tenant (Release unit) = refl
addressed_of_whole tenant (Status unit) = refl

-- a step taken apart is put together again
pub whole_of_addressed : (step : Step) → whole (addressed step).0 (addressed step).1 ≡ step
whole_of_addressed (Open tenant kinds quota optimism) = refl
whole_of_addressed (Join tenant kind) = refl
whole_of_addressed (Post unit number tenant text) = refl
whole_of_addressed (Deliver tenant letter) = refl
whole_of_addressed (Flush tenant unit) = refl
whole_of_addressed (Checkpoint tenant unit) = refl
whole_of_addressed (Kill tenant unit) = refl
whole_of_addressed (Restart tenant unit) = refl
whole_of_addressed (Notice tenant unit) = refl
whole_of_addressed (Release tenant unit) = refl
whole_of_addressed (Status tenant unit) = refl

-- what a step is taken apart to is put together to that step
pub whole_is : (step : Step) (tenant : List ℕ) (own : TenantStep)
    → addressed step ≡ (tenant, own) → whole tenant own ≡ step
whole_is step tenant own is =
    ap (λ (p : List ℕ × TenantStep). whole p.0 p.1) (sym is) ∙ whole_of_addressed step

-- a step that was put together of a name and a step is taken apart to these
pub parts_are : (tenant : List ℕ) (own : TenantStep) (step : Step)
    → whole tenant own ≡ step → addressed step ≡ (tenant, own)
parts_are tenant own step is = ap addressed (sym is) ∙ addressed_of_whole tenant own

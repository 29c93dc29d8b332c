-- What a function that does a step leaves.
use Rattle.std.specs.Prelude.{◌≡◌}
use denote.Ref.{MutBor}
use denote.Param.Members.{Shared}
use Rattle.model.specs.declared.replies.Reply.{Reply}
use Rattle.model.specs.declared.steps.Step.{Step}

module _ {F B : Type 0} (g : Shared F (MutBor B × (Step × Unit {0})) (Reply × (MutBor B × Unit {0}))) (f : F) where
  -- f may be called with any step
  abbrev pub TakesSteps : Type 0
  TakesSteps = (p : MutBor B) (step : Step) → g.pre f (p, (step, tt))

  -- a call of f with this step may give this reply, and leave this
  pub record DoesBy (old : B) (step : Step) (reply : Reply) (new : B) : Type 0 where
    pub argument : MutBor B
    pub argument_is : argument.now ≡ old
    pub after_call : MutBor B
    pub call : g.post f (argument, (step, tt)) (reply, (after_call, tt))
    pub left : after_call.now ≡ new

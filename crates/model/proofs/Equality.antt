-- `==` decides whether steps are equal, and whether replies are: it says yes to equals alone.
use Rattle.std.proofs.Common.{◌≡◌, ℕ, List, Decides, arith}
use Rattle.std.specs.Cmp.Lexicographic.{pointwise, pointwise_decides, bytes_decides}
use Rattle.std.specs.Str.{bytes_eq}
use Rattle.std.proofs.lemmas.Bool.Decides.{nat_tests}
use Rattle.model.specs.declared.replies.Reply.{Reply}
use Rattle.model.specs.declared.replies.Reply.TheVariants.{Released}
use Rattle.model.specs.declared.steps.Step.{Step}
use Rattle.model.specs.declared.steps.Step.TheVariants.{Open}
use Rattle.model.specs.contracts.replies.ReplyPartialEq.TheImpl.{ghosts as reply}
use Rattle.model.specs.contracts.steps.StepPartialEq.TheImpl.{ghosts as step}

texts_decide : (ts ts' : List (List ℕ)) → Decides (pointwise bytes_eq ts ts') (ts ≡ ts')
texts_decide = pointwise_decides bytes_decides

ruleset fields = (arith, nat_tests, bytes_decides, texts_decide)

-- `grind` tries each pair of variants. It finds `texts_decide` only where the variant with the texts is written out

pub step_decides : (s s' : Step) → Decides (step.eq s s') (s ≡ s')
step_decides (Open _ _ _ _) (Open _ _ _ _) = grind fields
step_decides _ _ = grind fields

pub reply_decides : (r r' : Reply) → Decides (reply.eq r r') (r ≡ r')
reply_decides (Released _) (Released _) = grind fields
reply_decides _ _ = grind fields

-- Answers of an open tenant.
use Rattle.std.specs.Prelude.{◌≡◌, Some}
use Rattle.model.specs.Records.{quiet}
use Rattle.model.specs.Steps.{Outcome}
use Rattle.model.specs.World.{World}
use Rattle.model.specs.declared.replies.End.TheVariants.{Device}
use Rattle.model.specs.declared.replies.Reply.{Reply}
use Rattle.model.specs.declared.replies.Said.{Said}
use Rattle.tenant.specs.Answers.{Answer}

-- the reply, and the world after the step
abbrev pub done : Reply → World → Outcome
done r w = record { reply = r; world = Some w }

-- the store was asked for records, and its device failed
abbrev pub failing : Said
failing = record { appended = 0; end = Device }

-- the answer of a step that does not touch the store
abbrev pub IsPlain : Answer → Type 0
IsPlain a = a.said ≡ quiet

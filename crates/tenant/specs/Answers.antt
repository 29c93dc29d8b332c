-- What a step is answered.
use Rattle.std.specs.Prelude.{◌≡◌}
use Rattle.model.specs.declared.replies.Reply.{Reply}
use Rattle.model.specs.declared.replies.Reply.TheVariants.{Accepted, Checkpointed, Flushed, Joined, Killed, Noticed}
use Rattle.model.specs.declared.replies.Reply.TheVariants.{Opened, Refused, Released, Restarted, Status, Stopped}
use Rattle.model.specs.declared.replies.Said.{Said}
use Rattle.tenant.specs.declared.answer.Spare.{Spare}
use Rattle.tenant.specs.declared.answer.Spare.TheVariants.{Letters, Nothing, Outputs}

-- what the store said during the step, and the reply
pub record Answer : Type 0 where
  pub said : Said
  pub reply : Reply

-- what an equal reply needs where none of its parts is a list
abbrev pub spare_none : Spare
spare_none = Nothing

-- An equal reply can be made of this one and its spare.
abbrev pub IsSpareOf : Spare → Reply → Type 0
IsSpareOf spare (Opened units) = Unit {0}
IsSpareOf spare (Joined unit) = Unit {0}
IsSpareOf spare (Accepted at held letters) = spare ≡ Letters letters
IsSpareOf spare (Flushed count) = Unit {0}
IsSpareOf spare (Checkpointed at) = Unit {0}
IsSpareOf spare (Killed lost) = Unit {0}
IsSpareOf spare (Restarted row) = Unit {0}
IsSpareOf spare (Noticed row) = Unit {0}
IsSpareOf spare (Released outputs) = spare ≡ Outputs outputs
IsSpareOf spare (Status at held known outside released rows stable up volatile) = Unit {0}
IsSpareOf spare (Stopped count refusal) = Unit {0}
IsSpareOf spare (Refused refusal) = Unit {0}

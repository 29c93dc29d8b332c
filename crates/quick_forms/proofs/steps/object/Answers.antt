use Rattle.std.proofs.Common.{Some, ap, ◌∙◌}
use Rattle.quick_forms.specs.Seen.{seen_members}
use Rattle.quick_forms.proofs.Turns.{object_read}
use Rattle.quick_forms.proofs.steps.object.Goals as goal

pub returns-in-None : goal.returns-in-None
returns-in-None c = object_read c.args.reader.now _
    (c.in_ok-seen.ensures 126 ∙ ap (λ r. Some (seen_members c.in_ok-seen.seen, r)) c.in-None.ensures.value.0)

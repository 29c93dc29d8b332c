use Rattle.std.proofs.Common.{◌∙◌, ap, ◌++◌, sym}
use Rattle.quick_forms.proofs.Lists.{pieces_2}
use Rattle.quick_forms.proofs.Written.{checkpointed_text}
use Rattle.quick_forms.proofs.replies.checkpointed.Goals as goal

pub returns : goal.returns
returns c =
    pieces_2 _ _ _ _ _ c.in_ok-mark_after.ensures c.in_ok-words.ensures
    ∙ ap (λ t. c.args.out.now.items ++ t) (sym (checkpointed_text c.args.at))

use Rattle.std.proofs.Common.{◌∙◌, ap, ◌++◌, sym}
use Rattle.quick_forms.proofs.Lists.{pieces_3}
use Rattle.quick_forms.proofs.Written.{released_text}
use Rattle.quick_forms.proofs.replies.released.Goals as goal

pub returns : goal.returns
returns c =
    pieces_3 _ _ _ _ _ _ _ c.in_ok-words.ensures c.in_ok-texts.ensures c.in_ok-words-2.ensures
    ∙ ap (λ t. c.args.out.now.items ++ t) (sym (released_text c.args.outputs.now))

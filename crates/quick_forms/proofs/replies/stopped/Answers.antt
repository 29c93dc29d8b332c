use Rattle.std.proofs.Common.{◌∙◌, ap, ◌++◌, sym}
use Rattle.quick_forms.proofs.Lists.{pieces_4}
use Rattle.quick_forms.proofs.Written.{stopped_text}
use Rattle.quick_forms.proofs.replies.stopped.Goals as goal

pub returns : goal.returns
returns c =
    pieces_4 _ _ _ _ _ _ _ _ _ c.in_ok-number_after.ensures c.in_ok-words.ensures
    (c.in_ok-words-2.ensures ∙ ap (λ t. c.words.new.out.items ++ t) c.name.ensures) c.in_ok-words-3.ensures
    ∙ ap (λ t. c.args.out.now.items ++ t) (sym (stopped_text c.args.count c.args.refusal))

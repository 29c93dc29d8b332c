use Rattle.std.proofs.Common.{◌∙◌, ap, ◌++◌, sym}
use Rattle.quick_forms.proofs.Lists.{pieces_3}
use Rattle.quick_forms.proofs.Written.{refused_text}
use Rattle.quick_forms.proofs.replies.refused.Goals as goal

pub returns : goal.returns
returns c =
    pieces_3 _ _ _ _ _ _ _ c.in_ok-words.ensures
    (c.in_ok-words-2.ensures ∙ ap (λ t. c.words.new.out.items ++ t) c.name.ensures) c.in_ok-words-3.ensures
    ∙ ap (λ t. c.args.out.now.items ++ t) (sym (refused_text c.args.refusal))

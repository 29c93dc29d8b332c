use Rattle.std.proofs.Common.{◌∙◌, ap, ◌++◌, sym}
use Rattle.quick_forms.proofs.Lists.{pieces_5}
use Rattle.quick_forms.proofs.Written.{accepted_text}
use Rattle.quick_forms.proofs.replies.accepted.Goals as goal

pub returns : goal.returns
returns c =
    pieces_5 _ _ _ _ _ _ _ _ _ _ _ c.in_ok-mark_after.ensures c.in_ok-number_after.ensures c.in_ok-words.ensures
    c.in_ok-numbers.ensures c.in_ok-words-2.ensures
    ∙ ap (λ t. c.args.out.now.items ++ t) (sym (accepted_text c.args.at c.args.held c.args.letters.now))

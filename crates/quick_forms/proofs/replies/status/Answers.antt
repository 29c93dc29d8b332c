use Rattle.std.proofs.Common.{◌∙◌, ap, ◌++◌, sym}
use Rattle.quick_forms.proofs.Lists.{pieces_9}
use Rattle.quick_forms.proofs.Written.{status_text}
use Rattle.quick_forms.proofs.replies.status.Goals as goal

pub returns : goal.returns
returns c =
    pieces_9 _ _ _ _ _ _ _ _ _ _ _ _ _ _ _ _ _ _ _ c.in_ok-mark_after.ensures c.in_ok-number_after.ensures
    c.in_ok-number_after-2.ensures c.in_ok-number_after-3.ensures
    c.in_ok-number_after-4.ensures c.in_ok-number_after-5.ensures c.in_ok-number_after-6.ensures
    (c.in_ok-words.ensures
    ∙ ap (λ t. c.number_after-6.new.out.items ++ t) c.up_words.ensures) c.in_ok-number_between.ensures
    ∙ ap (λ t. c.args.out.now.items ++ t) (sym (status_text c.args.at c.args.held c.args.known c.args.outside
    c.args.released c.args.rows c.args.stable c.args.up c.args.volatile))

use Rattle.std.proofs.Common.{◌++◌, ◌∷◌, [], ◌+◌, ◌∙◌, ap, sym, append_assoc}
use Rattle.std.proofs.lemmas.Fmt.{decimal_digit}
use Rattle.quick_forms.proofs.replies.number_after.Goals as goal

pub returns-then-n-lt10 : goal.returns-then-n-lt10
returns-then-n-lt10 c =
    let out = c.args.out.now.items in
    let before = c.args.before.now in
    let digit = (48 + c.args.n) ∷ [] in
    c.in_ok-push.ensures.items ∙ ap (λ text. text ++ digit) c.in_ok-words.ensures ∙ append_assoc out before digit
    ∙ ap (λ digits. out ++ (before ++ digits)) (sym (decimal_digit c.args.n c.if-n-lt10.true))

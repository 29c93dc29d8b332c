use Rattle.std.proofs.Common.{◌∙◌, sym, ap, arith, ◌+◌, [], ◌∷◌, ◌++◌, drop}
use Rattle.std.proofs.lemmas.List.{append-nil, append_assoc, drop_all}
use Rattle.std.proofs.lemmas.Option.{slice_get-get_or}
use Rattle.unit_steps.specs.SentLetters.{front}
use Rattle.unit_steps.proofs.Spent.{blank, front_ends, front_more}
use Rattle.unit_steps.proofs.sent_letters.SentLetters.pack_front.Goals as goal

pub returns-in-None : goal.returns-in-None
returns-in-None c =
    let cs = c.args.self.now.items in
    let n = c.loop-number.number in
    let test = c.loop-number-test.true in
    let long = c.len-number-end.ensures in
    let at = slice_get-get_or cs n blank (omega (arith, test, long)) in
    sym (append-nil c.loop-number.spent)
    ∙ ap (λ l. c.loop-number.spent ++ l) (sym (front_ends cs n _ at (c.in-None.ensures _ at)))
    ∙ c.loop-number.invariant

pub loop-number-preserved : goal.loop-number-preserved
loop-number-preserved c =
    let cs = c.args.self.now.items in
    let n = c.loop-number.number in
    let test = c.loop-number-test.true in
    let long = c.len-number-end.ensures in
    let at = slice_get-get_or cs n blank (omega (arith, test, long)) in
    ap (λ l. l ++ front (drop (n + 1) cs)) c.in_ok-push-in-Some.ensures.ok
    ∙ append_assoc c.loop-number.spent (c.in-Some.letter ∷ []) (front (drop (n + 1) cs))
    ∙ ap (λ l. c.loop-number.spent ++ l) (sym (front_more cs n _ c.in-Some.letter at (c.in-Some.ensures _ at)))
    ∙ c.loop-number.invariant

pub returns : goal.returns
unfolding front
returns c =
    let cs = c.args.self.now.items in
    let test = c.loop-number-test.false in
    let long = c.len-number-end.ensures in
    sym (append-nil c.loop-number.spent)
    ∙ ap (λ l. c.loop-number.spent ++ front l) (sym (drop_all c.loop-number.number cs (omega (arith, test, long))))
    ∙ c.loop-number.invariant

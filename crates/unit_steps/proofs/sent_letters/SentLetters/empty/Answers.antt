use Rattle.std.proofs.Common.{◌≡◌, ◌∙◌, sym, ap, ◌-◌, ◌≤◌, ◌++◌, length, map, arith}
use Rattle.std.specs.Prelude.{slice_get, slice_set}
use Rattle.compact.specs.Forgetting.{without_content}
use Rattle.unit_steps.specs.SentLetters.{SentLetters, spent_letter}
use Rattle.unit_steps.proofs.Spent.{front_stays, rest_at, rest_set}
use Rattle.unit_steps.proofs.sent_letters.SentLetters.empty.Goals as goal

pub returns-then-number-len-clause-there : goal.returns-then-number-len-clause-there
returns-then-number-len-clause-there c = λ d e.
    let spent = c.self.inside.spent in
    let rest = c.self.inside.rest.items in
    let is = ap (λ (s : SentLetters). s.items) c.self.view_is in
    let low : length spent ≤ c.args.number =
    let a = c.len.ensures in let b = c.if-number-len.true in omega (arith, a, b) in
    let first : c.len-then-number-len.result ≡ length spent =
    let a = c.len-then-number-len.ensures in omega (arith, a) in
    let at = ap (λ n. slice_get rest (c.args.number - n)) first ∙ sym (rest_at spent rest c.args.number low)
    ∙ ap (λ l. slice_get l c.args.number) is ∙ e in
    ap (λ l. map spent_letter spent ++ l) (c.empty_at.ensures.there d at
    ∙ ap (λ n. slice_set rest (c.args.number - n) (without_content d)) first)
    ∙ sym (rest_set spent rest c.args.number (without_content d) low)
    ∙ ap (λ l. slice_set l c.args.number (without_content d)) is

pub returns-then-number-len-clause-past : goal.returns-then-number-len-clause-past
returns-then-number-len-clause-past c = λ e.
    let spent = c.self.inside.spent in
    let rest = c.self.inside.rest.items in
    let is = ap (λ (s : SentLetters). s.items) c.self.view_is in
    let low : length spent ≤ c.args.number =
    let a = c.len.ensures in let b = c.if-number-len.true in omega (arith, a, b) in
    let first : c.len-then-number-len.result ≡ length spent =
    let a = c.len-then-number-len.ensures in omega (arith, a) in
    ap (λ l. map spent_letter spent ++ l) (c.empty_at.ensures.past
    (ap (λ n. slice_get rest (c.args.number - n)) first ∙ sym (rest_at spent rest c.args.number low)
    ∙ ap (λ l. slice_get l c.args.number) is ∙ e))
    ∙ is

pub returns-else-number-len-clause-there : goal.returns-else-number-len-clause-there
returns-else-number-len-clause-there c = λ d e.
    let spent = c.self.inside.spent in
    let rest = c.self.inside.rest.items in
    let is = ap (λ (s : SentLetters). s.items) c.self.view_is in
    let a = c.len.ensures in
    let b = c.if-number-len.false in
    sym is
    ∙ front_stays spent rest c.args.number d (omega (arith, a, b)) (ap (λ l. slice_get l c.args.number) is ∙ e)
    ∙ ap (λ l. slice_set l c.args.number (without_content d)) is

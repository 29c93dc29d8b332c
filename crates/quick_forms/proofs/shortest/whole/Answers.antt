use Rattle.std.proofs.Common.{◌≡◌, ◌++◌, ap, sym, ◌∙◌, get_or, length, decimal, rules}
use Rattle.std.proofs.lemmas.List.{take-append-drop}
use Rattle.quick_forms.proofs.Parts.{number_written}
use Rattle.quick_forms.proofs.shortest.whole.Goals as goal

pub returns-in-Ok : goal.returns-in-Ok
returns-in-Ok c =
    let digits = c.in_ok-digits.digits.now in
    let rest = c.in_ok-digits.rest.now in
    let same : c.as_bytes-bytes.result.now ≡ digits = c.as_bytes-bytes.ensures.value in
    let few : get_or digits 0 0 ≡ 48
    → length digits ≡ 1 = search (c.if-bytes-gt1.either, c.if-is_empty.false, same, rules) in
    let written : digits ≡ decimal c.in-Ok.number =
    number_written digits c.in-Ok.number c.parse.result c.parse.ensures.value.0 c.in-Ok.is
    (λ plus. c.if-bytes-eq43.false (ap (λ bs. get_or bs 0 0) same ∙ plus)) few in
    let parts : c.args.text.now ≡ digits ++ rest =
    rw (c.in_ok-digits.ensures.front, c.in_ok-digits.ensures.back)
    (sym (take-append-drop c.count-count.result c.args.text.now)) in
    parts ∙ ap (λ ds. ds ++ rest) (written ∙ ap decimal (sym c.from.ensures))

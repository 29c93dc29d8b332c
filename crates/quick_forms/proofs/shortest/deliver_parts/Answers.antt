use Rattle.std.proofs.Common.{◌≡◌, ◌++◌, [], ap, codes, length, rules}
use Rattle.std.proofs.lemmas.List.{nil_from_length}
use Rattle.quick_forms.proofs.Plain.{deliver_is}
use Rattle.quick_forms.proofs.shortest.deliver_parts.Goals as goal

pub returns-then-is_empty : goal.returns-then-is_empty
returns-then-is_empty c =
    let at = c.in_ok-tenant in
    let none : length at.rest.now ≡ 0 = search (c.is_empty.ensures, c.if-is_empty.true, rules) in
    let end : at.rest.now ≡ [] = nil_from_length at.rest.now none in
    deliver_is (codes ",\"letter\":" ++ c.args.rest.now) c.in_ok-letter.rest.now c.in_ok-after.field-0.now at.rest.now
    at.tenant.now c.in_ok-letter.letter (ap (λ rest. codes ",\"letter\":" ++ rest) c.in_ok-letter.ensures)
    c.in_ok-after.ensures at.ensures.text at.ensures.plain end

use Rattle.std.proofs.Common.{◌≡◌, ◌∙◌, ◌++◌, ap, codes, rules}
use Rattle.json.specs.Print.{quoted, escape_byte}
use Rattle.quick_forms.proofs.Plain.{post_is}
use Rattle.quick_forms.proofs.shortest.post_parts.Goals as goal

pub returns-then-eq : goal.returns-then-eq
unfolding escape_byte
returns-then-eq c =
    let verb = codes "post" in
    let begun : c.args.line.now ≡ codes "{\"do\":"
    ++ (quoted verb ++ (codes ",\"number\":" ++ c.in_ok-after.field-0.now)) =
    search (c.in_ok-after.ensures, rules) in
    let name = c.in_ok-tenant in
    let told = c.in_ok-text in
    let end : c.in_ok-unit.rest.now ≡ codes "}" = search (c.eq.ensures, c.if-eq.true, rules) in
    begun ∙ ap (λ rest. codes "{\"do\":" ++ (quoted verb ++ rest))
    (post_is (codes ",\"number\":" ++ c.in_ok-after.field-0.now) c.in_ok-number.rest.now
    c.in_ok-after-2.field-0.now name.rest.now told.rest.now c.in_ok-unit.rest.now name.tenant.now told.text.now
    c.in_ok-number.number c.in_ok-unit.unit (ap (λ rest. codes ",\"number\":" ++ rest) c.in_ok-number.ensures)
    c.in_ok-after-2.ensures name.ensures.text name.ensures.plain told.ensures.text told.ensures.plain
    c.in_ok-unit.ensures end)

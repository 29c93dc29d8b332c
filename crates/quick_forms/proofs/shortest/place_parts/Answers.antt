use Rattle.std.proofs.Common.{◌≡◌, codes, rules}
use Rattle.quick_forms.proofs.Plain.{place_is}
use Rattle.quick_forms.proofs.shortest.place_parts.Goals as goal

pub returns-then-eq : goal.returns-then-eq
returns-then-eq c =
    let at = c.in_ok-tenant in
    let end : c.in_ok-unit.rest.now ≡ codes "}" = search (c.eq.ensures, c.if-eq.true, rules) in
    place_is c.args.rest.now c.in_ok-after.field-0.now at.rest.now c.in_ok-unit.rest.now at.tenant.now
    c.in_ok-unit.unit c.in_ok-after.ensures at.ensures.text at.ensures.plain c.in_ok-unit.ensures end

use Rattle.std.proofs.Common.{◌≡◌, ◌<◌, ◌^◌, ap, sym, ◌∙◌, ◌++◌, codes, rules}
use Rattle.json.specs.Print.{quoted}
use Rattle.serde_json.specs.Written.{compact_text}
use Rattle.quick_forms.specs.Seen.{place_data}
use Rattle.quick_forms.proofs.Compact.{found, place_text, place_parts}
use Rattle.quick_forms.proofs.shortest.place_line.Goals as goal

pub returns : goal.returns
returns c =
    let verb = c.in_ok-verb.verb.now in
    let at = c.in_ok-tenant in
    let begun : c.args.line.now ≡ codes "{\"do\":" ++ (quoted verb ++ c.in_ok-verb.rest.now) =
    search (c.in_ok-verb.ensures, rules) in
    let d = place_data verb at.tenant.now at.unit in
    let line : c.args.line.now ≡ compact_text d = begun
    ∙ ap (λ rest. codes "{\"do\":" ++ (quoted verb ++ rest)) at.ensures
    ∙ sym (place_parts verb at.tenant.now at.unit) in
    let few : at.unit < 2 ^ 64 = search rules in
    found c.args.line.now (compact_text d) _ c.place.result line
    (place_text verb at.tenant.now at.unit few) c.place.ensures

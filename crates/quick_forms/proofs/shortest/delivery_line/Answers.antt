use Rattle.std.proofs.Common.{◌≡◌, ◌<◌, ◌^◌, ap, sym, ◌∙◌, ◌++◌, codes, rules}
use Rattle.json.specs.Print.{quoted}
use Rattle.serde_json.specs.Written.{compact_text}
use Rattle.quick_forms.specs.Seen.{deliver_data}
use Rattle.quick_forms.proofs.Compact.{found, deliver_text, deliver_parts}
use Rattle.quick_forms.proofs.shortest.delivery_line.Goals as goal

pub returns : goal.returns
returns c =
    let verb = codes "deliver" in
    let at = c.in_ok-letter in
    let begun : c.args.line.now ≡ codes "{\"do\":"
    ++ (quoted verb ++ (codes ",\"letter\":" ++ c.in_ok-behind_deliver.field-0.now)) =
    search (c.in_ok-behind_deliver.ensures, rules) in
    let d = deliver_data verb at.letter at.tenant.now in
    let line : c.args.line.now ≡ compact_text d = begun
    ∙ ap (λ rest. codes "{\"do\":" ++ (quoted verb ++ rest)) at.ensures
    ∙ sym (deliver_parts verb at.tenant.now at.letter) in
    let small : at.letter < 2 ^ 64 = search rules in
    found c.args.line.now (compact_text d) _ c.delivery.result line
    (deliver_text verb at.tenant.now at.letter small) c.delivery.ensures

use Rattle.std.proofs.Common.{arith, ◌≡◌, ◌∷◌, ap, ◌∙◌}
use Rattle.json.specs.Token.{Token}
use Rattle.json.specs.Json.{value}
use Rattle.serde_json.specs.Data.{string}
use Rattle.serde_json.specs.Read.{of_json, converted}
use Rattle.quick_forms.specs.Seen.{whole_data}
use Rattle.quick_forms.proofs.Turns.{string_read, number_read}
use Rattle.quick_forms.proofs.steps.member.Goals as goal

pub returns-in_ok-seen-in-Some-String-clause-ok : goal.returns-in_ok-seen-in-Some-String-clause-ok
returns-in_ok-seen-in-Some-String-clause-ok c =
    let t = c.in-Some-String.text.now in
    let first : c.args.reader.now ≡ Token.string t ∷ c.next.new.self = grind arith in (
      string t,
      λ m. ap (λ ts. converted of_json (value m ts)) first ∙ string_read m t _,
      c.in_ok-seen-in-Some-String.ensures,
    )

pub returns-in_ok-seen-in-Some-Number-clause-ok : goal.returns-in_ok-seen-in-Some-Number-clause-ok
returns-in_ok-seen-in-Some-Number-clause-ok c =
    let t = c.in-Some-Number.text.now in
    let first : c.args.reader.now ≡ Token.number t ∷ c.next.new.self = grind arith in (
      whole_data c.in_ok-n-in-Some-Number.n,
      λ m. ap (λ ts. converted of_json (value m ts)) first
          ∙ number_read m t c.in_ok-n-in-Some-Number.n _ c.in_ok-n-in-Some-Number.ensures,
      c.in_ok-seen-in-Some-Number.ensures,
    )

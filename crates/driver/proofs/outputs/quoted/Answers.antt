use Rattle.std.proofs.Common.{rules, ◌≡◌, ◌∙◌, ap, ap₂, ◌++◌, ◌∷◌, []}
use Rattle.json.specs.Print.{print}
use Rattle.json.specs.Token as spec
use Rattle.quick_forms.proofs.Written.{one_string}
use Rattle.driver.proofs.outputs.quoted.Goals as goal

pub returns : goal.returns
returns c =
    let before : c.string.new.self.before ≡ c.args.out.now.items = search rules in
    let tokens : c.string.new.self.tokens ≡ spec.string c.args.text.now ∷ [] = search rules in
    c.into_inner.ensures.items ∙ ap₂ (λ x y. x ++ y) before (ap print tokens ∙ one_string c.args.text.now)

use Rattle.std.proofs.Common.{rules, ◌≡◌, codes, sym, ap, ◌∙◌}
use Rattle.quick_forms.specs.Seen.{seen_members, whole_data}
use Rattle.serde_json.specs.Data.{put}
use Rattle.quick_forms.proofs.Turns.{put_unit, put_number, put_letter}
use Rattle.quick_forms.proofs.steps.with_number.Goals as goal

pub returns-then-eq : goal.returns-then-eq
returns-then-eq c =
    let is : c.args.key.now ≡ codes "unit" = search rules in
    sym (ap (λ k. put k (whole_data c.args.n) (seen_members c.args.seen)) is
    ∙ put_unit (whole_data c.args.n) _ _ _ _ _ _ _)

pub returns-then-eq-2 : goal.returns-then-eq-2
returns-then-eq-2 c =
    let is : c.args.key.now ≡ codes "number" = search rules in
    sym (ap (λ k. put k (whole_data c.args.n) (seen_members c.args.seen)) is
    ∙ put_number (whole_data c.args.n) _ _ _ _ _ _ _)

pub returns-then-eq-3 : goal.returns-then-eq-3
returns-then-eq-3 c =
    let is : c.args.key.now ≡ codes "letter" = search rules in
    sym (ap (λ k. put k (whole_data c.args.n) (seen_members c.args.seen)) is
    ∙ put_letter (whole_data c.args.n) _ _ _ _ _ _ _)

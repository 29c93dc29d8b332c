use Rattle.std.proofs.Common.{rules, ◌≡◌, codes, sym, ap, ◌∙◌}
use Rattle.quick_forms.specs.Seen.{seen_members}
use Rattle.serde_json.specs.Data.{string, put}
use Rattle.quick_forms.proofs.Turns.{put_verb, put_tenant, put_text, put_kind}
use Rattle.quick_forms.proofs.steps.with_text.Goals as goal

pub returns-then-eq : goal.returns-then-eq
returns-then-eq c =
    let is : c.args.key.now ≡ codes "do" = search rules in
    sym (ap (λ k. put k (string c.args.text.now) (seen_members c.args.seen)) is
    ∙ put_verb (string c.args.text.now) _ _ _ _ _ _ _)

pub returns-then-eq-2 : goal.returns-then-eq-2
returns-then-eq-2 c =
    let is : c.args.key.now ≡ codes "tenant" = search rules in
    sym (ap (λ k. put k (string c.args.text.now) (seen_members c.args.seen)) is
    ∙ put_tenant (string c.args.text.now) _ _ _ _ _ _ _)

pub returns-then-eq-3 : goal.returns-then-eq-3
returns-then-eq-3 c =
    let is : c.args.key.now ≡ codes "text" = search rules in
    sym (ap (λ k. put k (string c.args.text.now) (seen_members c.args.seen)) is
    ∙ put_text (string c.args.text.now) _ _ _ _ _ _ _)

pub returns-then-eq-4 : goal.returns-then-eq-4
returns-then-eq-4 c =
    let is : c.args.key.now ≡ codes "kind" = search rules in
    sym (ap (λ k. put k (string c.args.text.now) (seen_members c.args.seen)) is
    ∙ put_kind (string c.args.text.now) _ _ _ _ _ _ _)

use Rattle.std.proofs.Common.{◌≡◌, ◌<◌, ◌^◌, ap, sym, subst, ◌∙◌, codes, rules, Some, Err}
use Rattle.std.specs.Prelude.{IfSome}
use Rattle.json.specs.Lex.{tokens}
use Rattle.serde_json.specs.Written.{compact_text}
use Rattle.forms.proofs.Lines.{step_of_line-none}
use Rattle.quick_forms.specs.Seen.{post_data, step_of_tokens}
use Rattle.quick_forms.proofs.Compact.{found, post_parts, post_text}
use Rattle.quick_forms.proofs.NoStep.{gives_fault, line_step}
use Rattle.quick_forms.proofs.steps.read_addressed.Goals as goal
use Rattle.quick_forms.proofs.steps.read_addressed.Goals.{in-Some-eq100, in-Some-eq112+in-None, in_default-get}
use Rattle.quick_forms.proofs.steps.read_addressed.Goals.{
  in-Some-eq112+in-Some-post_parts+in_ok-shortest-in-Some-post_parts,
}

pub returns-in_default : goal.returns-in_default
returns-in_default c = step_of_line-none c.args.line.now (λ text. absurd (c.in_default.ensures text))

pub returns-in-Ok-Some : goal.returns-in-Ok-Some
returns-in-Ok-Some c =
    let line = c.args.line.now in
    let same : c.in_ok-reader.reader ≡ tokens line = c.in_ok-reader.ensures.ok ∙ ap tokens c.in-Some.ensures.0 in
    line_step line c.in-Some.ensures.1 ∙ ap step_of_tokens (sym same) ∙ subst (λ o. IfSome o
    (λ s. step_of_tokens c.in_ok-reader.reader ≡ Some s)) c.in-Ok-Some.field-0-is c.in-Ok-Some.ensures.some

pub returns-in-Err : goal.returns-in-Err
returns-in-Err c =
    let line = c.args.line.now in
    let same : c.in_ok-reader.reader ≡ tokens line = c.in_ok-reader.ensures.ok ∙ ap tokens c.in-Some.ensures.0 in
    gives_fault c.in-Err.fault _
    (λ bad. line_step line c.in-Some.ensures.1 ∙ ap step_of_tokens (sym same) ∙ c.in-Err.ensures.bad (ap Err bad))

pub returns-in-Some-shortest : goal.returns-in-Some-shortest
returns-in-Some-shortest c =
    let line = c.args.line.now in
    let text = c.in-Some.text.now in
    let found_here : IfSome c.match-get.shortest (λ s. step_of_tokens (tokens text) ≡ Some s) =
    elim c.match-get.branch [
      | in-Some-eq100 w ↦
          subst (λ o. IfSome o (λ s. step_of_tokens (tokens text) ≡ Some s)) (sym w.shortest-is)
          w.delivery_line-shortest.ensures
      | in-Some-eq112+in-Some-post_parts+in_ok-shortest-in-Some-post_parts w ↦
          let verb = codes "post" in
          let at = w.in-Some-post_parts in
          let d = post_data verb at.number at.tenant.now at.text.now at.unit in
          let is : text ≡ compact_text d =
          at.ensures ∙ sym (post_parts verb at.tenant.now at.text.now at.number at.unit) in
          let small : at.number < 2 ^ 64 = search rules in
          let few : at.unit < 2 ^ 64 = search rules in
          subst (λ o. IfSome o (λ s. step_of_tokens (tokens text) ≡ Some s)) (sym w.shortest-is)
          (found text (compact_text d) _ _ is (post_text verb at.tenant.now at.text.now at.number at.unit small few)
          w.in_ok-shortest-in-Some-post_parts.ensures)
      | in-Some-eq112+in-None w ↦
          subst (λ o. IfSome o (λ s. step_of_tokens (tokens text) ≡ Some s)) (sym w.shortest-is) tt
      | in_default-get w ↦
          subst (λ o. IfSome o (λ s. step_of_tokens (tokens text) ≡ Some s)) (sym w.shortest-is)
          w.place_line-shortest.ensures
    ] in
    line_step line c.in-Some.ensures.1 ∙ ap (λ text. step_of_tokens (tokens text)) (sym c.in-Some.ensures.0) ∙ subst
    (λ o. IfSome o (λ s. step_of_tokens (tokens text) ≡ Some s)) c.in-Some-shortest.is found_here

pub returns-then-begins_no_object : goal.returns-then-begins_no_object
returns-then-begins_no_object c =
    let line = c.args.line.now in
    line_step line c.in-Some.ensures.1 ∙ ap (λ text. step_of_tokens (tokens text)) (sym c.in-Some.ensures.0)
    ∙ c.begins_no_object.ensures (c.if-begins_no_object.true)

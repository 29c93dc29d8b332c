use Rattle.std.proofs.Common.{◌∙◌, ap}
use Rattle.serde_json.specs.Written.{has_float, compact_text}
use Rattle.audit.specs.Line.{outcome_data, outcome_text}
use Rattle.audit.proofs.Floats.{has_float-outcome}
use Rattle.audit.proofs.line.audit_line.Goals as goal

pub returns : goal.returns
unfolding outcome_text
returns c =
    let is = c.in_ok-value.ensures ∙ ap (λ t. outcome_data t c.args.outcome.now) c.as_str.ensures.text in
    c.in_ok-to_string.ensures.text (ap has_float is ∙ has_float-outcome c.args.tenant.now c.args.outcome.now)
    ∙ ap compact_text is

use Rattle.std.proofs.Common.{◌∙◌, ap}
use Rattle.serde_json.specs.Written.{has_float, compact_text}
use Rattle.forms.specs.Writing.{data_text}
use Rattle.forms.proofs.OneLine.{one_line}
use Rattle.forms.proofs.Floats.{has_float-record}
use Rattle.forms.proofs.records.write_record.Goals as goal

pub returns-clause-text : goal.returns-clause-text
unfolding data_text
returns-clause-text c =
    let is = c.in_ok-value.ensures in
    c.in_ok-to_string.ensures.text (ap has_float is ∙ has_float-record c.args.logged.now) ∙ ap compact_text is

pub returns-clause-one_line : goal.returns-clause-one_line
returns-clause-one_line c = one_line _ c.in_ok-to_string.ensures.compact

use Rattle.std.proofs.Common.{◌≤◌, ◌∙◌, ap, sym, subst, Some}
use Rattle.serde_json.specs.Data.{depth}
use Rattle.serde_json.specs.Read.{max_depth}
use Rattle.serde_json.specs.Written.{has_float, compact_text}
use Rattle.forms.specs.Writing.{data_text}
use Rattle.forms.proofs.OneLine.{one_line}
use Rattle.forms.proofs.Replies.{has_float-reply, depth-reply}
use Rattle.forms.proofs.writing.write_reply.Goals as goal

pub returns-clause-text : goal.returns-clause-text
unfolding data_text
returns-clause-text c =
    let is = c.in_ok-value.ensures in
    c.in_ok-to_string.ensures.text (ap has_float is ∙ has_float-reply c.args.reply.now) ∙ ap compact_text is

pub returns-clause-reads_back : goal.returns-clause-reads_back
returns-clause-reads_back c =
    let is = c.in_ok-value.ensures in
    c.in_ok-to_string.ensures.reads_back (subst (λ d. depth d ≤ max_depth) (sym is) (depth-reply c.args.reply.now))
    ∙ ap Some is

pub returns-clause-one_line : goal.returns-clause-one_line
returns-clause-one_line c = one_line _ c.in_ok-to_string.ensures.compact

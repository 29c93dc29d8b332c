use Rattle.std.proofs.Common.{◌∙◌, ap, sym, eqb}
use Rattle.serde_json.proofs.Views.{members_len-members_view}
use Rattle.forms.specs.Reading.{count_is}
use Rattle.forms.proofs.reading.count_is.Goals as goal

pub returns-in-Some : goal.returns-in-Some
returns-in-Some c =
    let same = members_len-members_view c.in-Some.map.now.entries in
    ap (λ n. eqb n c.args.count) (c.len.ensures.len ∙ sym same) ∙ ap (count_is c.args.count) c.in-Some.ensures

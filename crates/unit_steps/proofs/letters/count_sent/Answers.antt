use Rattle.std.proofs.Common.{◌∙◌, sym, arith}
use Rattle.unit_steps.proofs.Numbers.{sent_past}
use Rattle.unit_steps.proofs.letters.count_sent.Goals as goal

pub returns-else-from-len : goal.returns-else-from-len
returns-else-from-len c =
    let past = c.if-from-len.false in
    let at = c.from.ensures ∙ c.number.ensures in
    let long = c.len.ensures in
    sym (sent_past c.args.counts.now c.args.unit (omega (arith, past, at, long)))

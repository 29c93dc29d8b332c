use Rattle.std.proofs.Common.{◌≡◌, rules}
use Rattle.driver.proofs.Lines.{line_written}
use Rattle.driver.proofs.outputs.line_of.Goals as goal

pub returns : goal.returns
returns c =
    let text = rw c.as_str.ensures at c.in_ok-quoted.ensures in
    let tenant = rw c.as_str-2.ensures.text at c.in_ok-quoted-2.ensures in
    let unit : c.from.result ≡ c.args.unit = search rules in
    let digits = rw unit at c.in_ok-number.ensures in
    line_written c.args.tenant.now c.args.unit c.args.text.now c.args.room.items _ _ _ _ _ _ _ c.requires
    c.in_ok-words.ensures text c.in_ok-words-2.ensures tenant c.in_ok-words-3.ensures digits c.in_ok-words-4.ensures

use Rattle.std.proofs.Common.{◌∙◌, sym, rules}
use Rattle.audit.proofs.Taking.{letter_taken}
use Rattle.audit.proofs.moves.take_letter.Goals as goal

pub returns-in-Ok : goal.returns-in-Ok
returns-in-Ok g c =
    letter_taken g.H.Handler.meaning c.args.net c.without_next-rest.result.0 c.in-Ok.next c.args.to c.args.from
    c.in-Some.text
    (search rules) (search rules) c.without_next-rest.ensures.net
    (sym c.without_next-rest.ensures.text ∙ c.in-Some.is) c.in-Ok.ensures

use Rattle.std.proofs.Common.{◌∙◌, arith, refl}
use Rattle.tenant.proofs.Giving.{none_already, none_then, past_still, stands_still}
use Rattle.tenant.proofs.tenant.Tenant.give_up.Goals as goal

pub returns-then-from-len-clause-stands : goal.returns-then-from-len-clause-stands
returns-then-from-len-clause-stands g c =
    let given = c.give_up.ensures in
    rw (← c.self.view_is) (λ name w records s. stands_still c.self.inside.outlet c.give_up.new.self
    c.args.unit given.len given.gone given.texts given.others g.H.Handler.meaning _ refl refl name w records s)

pub returns-then-from-len-clause-past : goal.returns-then-from-len-clause-past
returns-then-from-len-clause-past g c =
    rw (← c.self.view_is) (λ w shelves kept. past_still _ _ _ w shelves kept)

pub returns-then-from-len-clause-none : goal.returns-then-from-len-clause-none
returns-then-from-len-clause-none g c =
    let given = c.give_up.ensures in
    rw (← c.self.view_is) (none_then c.self.inside.outlet c.give_up.new.self
    c.args.unit given.len given.gone given.texts given.others)

pub returns-else-from-len-clause-none : goal.returns-else-from-len-clause-none
returns-else-from-len-clause-none g c =
    let at = c.from.ensures ∙ c.number.ensures in
    let len = c.len.ensures in
    let past = c.if-from-len.false in
    rw (← c.self.view_is) (none_already c.self.inside.outlet c.args.unit (omega (arith, at, len, past)))

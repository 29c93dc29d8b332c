use Rattle.tenant.proofs.Lines.{none_gone, none_out}
use Rattle.tenant.proofs.open.empty_outlet.Goals as goal

pub returns-clause-gone : goal.returns-clause-gone
returns-clause-gone c =
    none_gone c.in_ok-outlet.outlet c.args.width c.in_ok-outlet.ensures.len c.in_ok-outlet.ensures.gone

pub returns-clause-texts : goal.returns-clause-texts
returns-clause-texts c =
    none_out c.in_ok-outlet.outlet c.args.width c.in_ok-outlet.ensures.len c.in_ok-outlet.ensures.none

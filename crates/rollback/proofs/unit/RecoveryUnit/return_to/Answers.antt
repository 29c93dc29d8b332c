use Rattle.std.proofs.Common.{sym, subst}
use Rattle.rollback.specs.Units.{Recovering, CountsOutside}
use Rattle.rollback.proofs.unit.RecoveryUnit.return_to.Goals as goal

pub returns-clause-outside : goal.returns-clause-outside
returns-clause-outside g c = λ before was. subst
    (λ (u : Recovering _). CountsOutside before u) (sym c.self.view_is) (c.cut.ensures.outside before was)

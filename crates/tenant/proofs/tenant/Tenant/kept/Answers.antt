use Rattle.std.proofs.Common.{◌∙◌}
use Rattle.tenant.proofs.Counted.{kept_same}
use Rattle.tenant.proofs.tenant.Tenant.kept.Goals as goal

pub returns : goal.returns
returns g c = λ name w records shelves s k. c.amount.ensures
    ∙ kept_same g.H.Handler.meaning name c.args.self.now w records shelves s k c.args.unit

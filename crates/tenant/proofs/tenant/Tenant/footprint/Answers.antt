use Rattle.tenant.proofs.Counted.{footprint_told}
use Rattle.tenant.proofs.tenant.Tenant.footprint.Goals as goal

pub returns-clause-lengths : goal.returns-clause-lengths
returns-clause-lengths g c = λ name w records shelves s k.
    footprint_told g.H.Handler.meaning name c.args.self.now w records shelves s k
    c.args.unit c.lengths.result c.lengths.ensures.lengths

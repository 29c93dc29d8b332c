use Rattle.std.proofs.Common.{◌≡◌, subst, List, ℕ}
use Rattle.std.specs.Prelude.{Option, None, Some, MatchOption}
use Rattle.tenant.specs.Stands.{live_in}
use Rattle.tenant.proofs.Reading.{released_same}
use Rattle.tenant.proofs.Standing.{opened}
use Rattle.tenant.proofs.tenant.Tenant.released.Goals as goal

pub returns : goal.returns
returns g c = λ name w records s none. subst
    (λ (o : Option (List (List ℕ))). MatchOption c.released_texts.result (o ≡ None) (λ texts. o ≡ Some texts.now))
    (released_same g.H.Handler.meaning name (live_in name records)
    c.args.self.now w (opened s).whole (opened s).stands none c.args.unit) c.released_texts.ensures

use Rattle.step_lists.proofs.Headline.{headline_of_lists}
use Rattle.step_lists.proofs.laws.headline_of_lists.Goals as goal

pub returns : goal.returns
returns g c = headline_of_lists g.H.Handler.meaning

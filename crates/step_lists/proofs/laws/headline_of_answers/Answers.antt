use Rattle.step_lists.proofs.Headline.{headline_of_answers}
use Rattle.step_lists.proofs.laws.headline_of_answers.Goals as goal

pub returns : goal.returns
returns g c = headline_of_answers g.H.Handler.meaning

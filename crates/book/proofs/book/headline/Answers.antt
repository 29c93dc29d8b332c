use Rattle.book.proofs.Certified.{headline}
use Rattle.book.proofs.book.headline.Goals as goal

pub returns : goal.returns
returns g c = headline (g.H.Handler.meaning)

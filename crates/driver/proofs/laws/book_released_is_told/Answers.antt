use Rattle.driver.proofs.Told.{book_released_is_told as told_law}
use Rattle.driver.proofs.laws.book_released_is_told.Goals as goal

pub returns : goal.returns
returns g c = told_law g.H.Handler.meaning

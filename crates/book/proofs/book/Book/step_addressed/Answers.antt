use Rattle.std.proofs.Common.{◌∙◌}
use Rattle.book.proofs.book.Book.step_addressed.Goals as goal

pub returns-in-Ok-clause-entered : goal.returns-in-Ok-clause-entered
returns-in-Ok-clause-entered g c = rw (c.in-Ok.ensures ∙ c.step.view_is) at c.enter_own.ensures.entered

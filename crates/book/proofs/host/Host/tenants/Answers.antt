use Rattle.book.proofs.Answers.{if_ok}
use Rattle.book.proofs.host.Host.tenants.Goals as goal
use Rattle.std.proofs.Common.{◌∙◌}

pub returns : goal.returns
returns g c = λ history replay. if_ok c.names.result (λ names is. is ∙ replay.order) c.names.ensures

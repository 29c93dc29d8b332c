use Rattle.dealing.proofs.Serving.{dealt_lines_serve}
use Rattle.dealing.proofs.laws.dealt_lines_serve.Goals as goal

pub returns : goal.returns
returns g c = dealt_lines_serve g.H.Handler.meaning

use Rattle.book.proofs.Answers.{if_ok}
use Rattle.book.proofs.Certified.{certified}
use Rattle.book.proofs.book.Book.certificate.Goals as goal

pub returns : goal.returns
returns g c = if_ok c.certificate_moves.result (λ moves h.
    certified g.H.Handler.meaning c.args.tenant.now c.args.self.now.history moves.items h) c.certificate_moves.ensures

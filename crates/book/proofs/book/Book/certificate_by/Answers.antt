use Rattle.std.proofs.Common.{◌∙◌, ap, subst, sym}
use Rattle.model.specs.History.{IsLegal, own, pairs}
use Rattle.book.proofs.Answers.{if_ok}
use Rattle.book.proofs.Certified.{certified}
use Rattle.book.proofs.Parted.{legal_part, own_part}
use Rattle.book.proofs.book.Book.certificate_by.Goals as goal

pub moves_by-requires-clause-own : goal.moves_by-requires-clause-own
moves_by-requires-clause-own g c κs within =
    ap (λ h. own c.args.tenant.now (pairs h)) c.requires ∙ own_part c.args.tenant.now c.args.self.now.history

pub moves_by-requires-clause-legal : goal.moves_by-requires-clause-legal
moves_by-requires-clause-legal g c κs within = λ legal. subst (IsLegal g.H.Handler.meaning)
    (sym c.requires) (legal_part g.H.Handler.meaning c.args.tenant.now c.args.self.now.history legal)

pub returns : goal.returns
returns g c = if_ok c.moves_by.result (λ moves h.
    certified g.H.Handler.meaning c.args.tenant.now c.args.self.now.history moves.items h) c.moves_by.ensures

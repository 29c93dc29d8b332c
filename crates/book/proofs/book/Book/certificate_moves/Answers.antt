use Rattle.std.proofs.Common.{ap, subst, sym}
use Rattle.model.specs.History.{IsLegal, own, pairs}
use Rattle.book.proofs.book.Book.certificate_moves.Goals as goal

pub moves_by-requires-clause-own : goal.moves_by-requires-clause-own
moves_by-requires-clause-own g c κs within = ap (λ h. own c.args.tenant.now (pairs h)) c.history.ensures.entries

pub moves_by-requires-clause-legal : goal.moves_by-requires-clause-legal
moves_by-requires-clause-legal g c κs within =
    λ legal. subst (IsLegal g.H.Handler.meaning) (sym c.history.ensures.entries) legal

use Rattle.lines.specs.Serving.{EntersStep, Serves}
use Rattle.lines.proofs.Runs.{served_all, served_some}
use Rattle.lines.proofs.serving.serve.Goals as goal

pub returns-clause-all : goal.returns-clause-all
returns-clause-all g c =
    served_all _ _ EntersStep Serves c.args.book.now c.serve_by.new.book
    (λ lines replies p. p) (λ p q step reply is. is.1) c.serve_by.result _ _ _ c.serve_by.ensures.all

pub returns-clause-some : goal.returns-clause-some
returns-clause-some g c =
    served_some _ _ EntersStep Serves c.args.book.now c.serve_by.new.book
    (λ lines replies p. p) (λ p q step reply is. is.1) c.serve_by.result _ _ _ _ c.serve_by.ensures.some

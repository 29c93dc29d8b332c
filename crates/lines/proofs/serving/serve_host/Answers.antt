use Rattle.lines.specs.Serving.{HostDoes, HostServes}
use Rattle.lines.proofs.Runs.{host_serves, served_all, served_some}
use Rattle.lines.proofs.serving.serve_host.Goals as goal

pub returns-clause-all : goal.returns-clause-all
returns-clause-all g c =
    served_all _ _ (HostDoes g.H.Handler.meaning) (HostServes g.H.Handler.meaning)
    c.args.host.now c.serve_by.new.book (λ lines replies p. host_serves g.H.Handler.meaning lines _ replies _ p)
    (λ p q step reply is. is.1) c.serve_by.result _ _ _ c.serve_by.ensures.all

pub returns-clause-some : goal.returns-clause-some
returns-clause-some g c =
    served_some _ _ (HostDoes g.H.Handler.meaning) (HostServes g.H.Handler.meaning)
    c.args.host.now c.serve_by.new.book (λ lines replies p. host_serves g.H.Handler.meaning lines _ replies _ p)
    (λ p q step reply is. is.1) c.serve_by.result _ _ _ _ c.serve_by.ensures.some

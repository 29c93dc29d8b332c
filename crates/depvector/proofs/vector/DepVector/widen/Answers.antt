use Rattle.depvector.proofs.Joins.{widened_by_clones}
use Rattle.depvector.proofs.vector.DepVector.widen.Goals as goal

pub returns-in_ok-resize-clause-ok : goal.returns-in_ok-resize-clause-ok
returns-in_ok-resize-clause-ok c = widened_by_clones c.args.self.now c.resize.new.self.items c.args.n
    (rw (← c.self.view_is) (rw c.len.ensures.value at c.if-len-n.true))
    (rw (← c.self.view_is) (rw c.beginning.ensures at c.in_ok-resize.ensures.ok)) c.in_ok-resize.ensures.len

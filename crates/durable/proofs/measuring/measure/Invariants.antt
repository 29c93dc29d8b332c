use Rattle.durable.specs.Measuring.{IsMeasuredOf}
use Rattle.durable.proofs.measuring.measure.Given as goal

abbrev pub invariant-loop : goal.invariant-loop
invariant-loop g l = IsMeasuredOf (g.R.Read.remaining l.fn.reader) (g.R.Read.remaining l.reader) l.fn.from l.measured

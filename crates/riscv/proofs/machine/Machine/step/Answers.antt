use Rattle.std.proofs.Common.{None, Some}
use Rattle.riscv.proofs.Steps.{one_step}
use Rattle.riscv.proofs.machine.Machine.step.Goals as goal

pub returns-in-None : goal.returns-in-None
returns-in-None c = one_step None c.run.result.done _ _
    (record { made = c.run.ensures.made; why = rw c.in-None.is at c.run.ensures.why })

pub returns-in-Some : goal.returns-in-Some
returns-in-Some c = one_step (Some c.in-Some.stop) c.run.result.done _ _
    (record { made = c.run.ensures.made; why = rw c.in-Some.is at c.run.ensures.why })

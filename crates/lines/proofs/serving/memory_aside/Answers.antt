use Rattle.lines.proofs.Runs.{enters_each}
use Rattle.lines.proofs.serving.memory_aside.Goals as goal

pub returns : goal.returns
returns c = enters_each

use Rattle.journal.proofs.Memory.{memory_is_told}
use Rattle.journal.proofs.laws.memory_is_told.Goals as goal

pub returns : goal.returns
returns c = memory_is_told

use Rattle.riscv.proofs.Quotients.{signed_divides}
use Rattle.riscv.proofs.laws.signed_divides.Goals as goal

pub returns : goal.returns
returns c = signed_divides

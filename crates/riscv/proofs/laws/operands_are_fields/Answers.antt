use Rattle.riscv.proofs.Operands.{operands_are_fields}
use Rattle.riscv.proofs.laws.operands_are_fields.Goals as goal

pub returns : goal.returns
returns c = operands_are_fields

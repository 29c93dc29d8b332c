use Rattle.std.proofs.Common.{refl}
use Rattle.riscv.proofs.Pages.{zero_words_are}
use Rattle.riscv.proofs.body.zeros.Goals as goal

pub returns : goal.returns
returns c = zero_words_are _ 1024 refl
